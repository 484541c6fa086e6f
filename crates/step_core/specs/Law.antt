-- What every schedule keeps, in eight laws.
use Rattle.std.specs.Prelude.{◌≡◌, ℕ, ◌+◌, ◌<◌, ◌≤◌, min, max, Bool, true, false, not, ◌&&◌, ◌==◌, sum_by, List, Option, Some, None, IfSome, length, slice_index}
use Rattle.commons.specs.Bag.{bag}
use Rattle.step_core.specs.Bags.{one_if, below, Includes}
use Rattle.step_core.specs.Links.{Path, Spells, first_value}
use Rattle.step_core.specs.World.{Head, Look, Chain, Phase, ToFill, Filled, Seized, TakenOut, Work, View, World, view_at, link_in, hands, all_zeros, all_holds, credits, parts, every_part, Packet, desk_at}

-- The common list is spelled from the head's top, and each element below the population stands in
-- exactly one place: once in the common list, once in one hand, or among the holds.
pub record PlaceLaw (w : World) (common : List ℕ) : Type 0 where
  pub spelled : Spells (link_in w.links) w.head.top common
  pub one_place : (i : ℕ) →
      bag common i + hands i w.views + all_zeros i w.views + min 1 (all_holds i w.views w.desks)
      ≡ below w.limits.population i

-- A held element's count is the number of its holds. Any other's is 1, or 0 where a hand says so.
pub record CountLaw (w : World) : Type 0 where
  pub counted : (i : ℕ) → i < w.limits.population →
      slice_index w.counts i + all_zeros i w.views ≡ max 1 (all_holds i w.views w.desks)

-- the length word and the credits of all views are the length of the common list
pub record LengthLaw (w : World) (common : List ℕ) : Type 0 where
  pub credited : w.length + credits w.views ≡ length common

-- What a worker of this part saw of the head: never more than there is, and while the count
-- stands, the walk stands too. The count stands where the part is all there is.
pub record LookRule (all : ℕ) (head : Head) (link : ℕ → ℕ) (part seen : ℕ) (look : Look) : Type
    0 where
  pub not_ahead : look.head.count ≤ head.count
  pub was_seen : look.head.count ≤ seen
  pub same_count : part ≡ all → look.head.count ≡ head.count
  pub same_top : look.head.count ≡ head.count → look.head.top ≡ head.top
  pub walked : look.head.count ≡ head.count → Path link look.head.top look.front look.next

pub record LookLaw (w : World) : Type 0 where
  pub seen : (k : ℕ) → (view_at w.views k).seen ≤ w.head.count
  pub look : (k : ℕ) → IfSome (view_at w.views k).look (LookRule (every_part w.limits) w.head
      (link_in w.links) (view_at w.views k).part (view_at w.views k).seen)

-- a chain's elements are of the hand, each once, and its links lead through them to its end
pub record ChainRule (link : ℕ → ℕ) (hand : List ℕ) (chain : Chain) : Type 0 where
  pub not_empty : 0 < length chain.items
  pub in_hand : Includes hand chain.items
  pub linked : Path link (first_value chain.items) chain.items chain.end

pub record ChainLaw (w : World) : Type 0 where
  pub chain : (k : ℕ) →
      IfSome (view_at w.views k).chain (ChainRule (link_in w.links) (view_at w.views k).hand)

abbrev pub is_filling : Phase → Bool
is_filling ToFill = true
is_filling (Filled p) = true
is_filling (Seized p) = false
is_filling TakenOut = false

-- what the slot of a busy desk has
abbrev pub left_in : Phase → Option Packet
left_in ToFill = None
left_in (Filled p) = Some p
left_in (Seized p) = Some p
left_in TakenOut = None

-- 1 where this work fills desk d, and where it empties it
abbrev pub fills : ℕ → Option Work → ℕ
fills d None = 0
fills d (Some x) = one_if ((x.desk == d) && is_filling x.phase)

abbrev pub empties : ℕ → Option Work → ℕ
empties d None = 0
empties d (Some x) = one_if ((x.desk == d) && not (is_filling x.phase))

-- A desk's word is 0 to 3. With 1 one view works at it, to fill it; with 3 one view works at it,
-- to empty it; else none does. Its slot is empty with 0, has a packet with 2, and else is as that
-- view's work says.
pub record DeskLaw (w : World) : Type 0 where
  pub words : (d : ℕ) → (desk_at w.desks d).word ≤ 3
  pub filled : (d : ℕ) → sum_by (λ v. fills d v.work) w.views ≡ one_if ((desk_at w.desks d).word == 1)
  pub emptied : (d : ℕ) → sum_by (λ v. empties d v.work) w.views ≡ one_if ((desk_at w.desks d).word == 3)
  pub empty : (d : ℕ) → (desk_at w.desks d).word ≡ 0 → (desk_at w.desks d).slot ≡ None
  pub full : (d : ℕ) → (desk_at w.desks d).word ≡ 2 → (p : Packet) × ((desk_at w.desks d).slot ≡ Some p)
  pub slots : (k : ℕ) →
      IfSome (view_at w.views k).work (λ x. (desk_at w.desks x.desk).slot ≡ left_in x.phase)

pub record NamesNothing (v : View) : Type 0 where
  pub hand : length v.hand ≡ 0
  pub zeros : length v.zeros ≡ 0
  pub holds : length v.holds ≡ 0
  pub credit : v.credit ≡ 0
  pub look : v.look ≡ None
  pub chain : v.chain ≡ None
  pub work : v.work ≡ None

-- the parts add up to one for each worker, and a view of part 0 names nothing
pub record PartLaw (w : World) : Type 0 where
  pub parts : parts w.views ≡ every_part w.limits
  pub idle : (k : ℕ) → (view_at w.views k).part ≡ 0 → NamesNothing (view_at w.views k)

-- Links and counts are one for each element. Link values, tops and ends are at most the
-- population; counts are at most the reference limit, which is at least 1.
pub record RangeLaw (w : World) : Type 0 where
  pub links : length w.links ≡ w.limits.population
  pub links_in_range : (i : ℕ) → link_in w.links i ≤ w.limits.population
  pub counts : length w.counts ≡ w.limits.population
  pub counts_in_range : (i : ℕ) → slice_index w.counts i ≤ w.limits.ref_limit
  pub ref_limit : 1 ≤ w.limits.ref_limit
  pub top : w.head.top ≤ w.limits.population
  pub looks : (k : ℕ) → IfSome (view_at w.views k).look
      (λ l. (l.head.top ≤ w.limits.population) × (l.next ≤ w.limits.population))
  pub chains : (k : ℕ) → IfSome (view_at w.views k).chain (λ c. c.end ≤ w.limits.population)

-- a world that obeys all laws
pub record Lawful (w : World) : Type 0 where
  pub common : List ℕ
  pub places : PlaceLaw w common
  pub counts : CountLaw w
  pub lengths : LengthLaw w common
  pub looks : LookLaw w
  pub chains : ChainLaw w
  pub desks : DeskLaw w
  pub parts : PartLaw w
  pub ranges : RangeLaw w
