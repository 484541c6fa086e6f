-- The laws as steps keep them: in four parts, of which a step opens those alone that read what it
-- changes.
use Rattle.std.proofs.Common.{◌≡◌, ℕ, ◌+◌, ◌<◌, ◌≤◌, min, max, List, Some, None, length}
use Rattle.std.specs.Prelude.{sum_by, IfSome, slice_index, ◌==◌}
use Rattle.commons.specs.Bag.{bag}
use Rattle.step_core.specs.Bags.{one_if, below, Includes}
use Rattle.step_core.specs.Links.{Path, Spells, first_value}
use Rattle.step_core.specs.World.{Head, Look, Chain, View, World, Packet, view_at, desk_at, link_in, hands, all_zeros, all_holds, credits, parts, every_part}
use Rattle.step_core.specs.Law.{fills, empties, left_in}

-- what a worker of this part saw of the head
pub record LookParts (population workers : ℕ) (head : Head) (link : ℕ → ℕ) (part seen : ℕ) (look : Look) : Type 0 where
  pub not_ahead : look.head.count ≤ head.count
  pub was_seen : look.head.count ≤ seen
  pub same_count : part ≡ workers → look.head.count ≡ head.count
  pub same_top : look.head.count ≡ head.count → look.head.top ≡ head.top
  pub walked : look.head.count ≡ head.count → Path link look.head.top look.front look.next
  pub top_in_range : look.head.top ≤ population
  pub in_range : look.next ≤ population

-- a chain's elements are in the hand, each once, and linked
pub record ChainParts (population : ℕ) (link : ℕ → ℕ) (hand : List ℕ) (chain : Chain) : Type 0 where
  pub not_empty : 0 < length chain.items
  pub in_hand : Includes hand chain.items
  pub linked : Path link (first_value chain.items) chain.items chain.end
  pub in_range : chain.end ≤ population

-- what the stack's part says of one view
pub record StackView (population workers : ℕ) (head : Head) (link : ℕ → ℕ) (v : View) : Type 0 where
  pub seen : v.seen ≤ head.count
  pub look : IfSome v.look (LookParts population workers head link v.part v.seen)
  pub chain : IfSome v.chain (ChainParts population link v.hand)
  -- a view of part 0 names nothing
  pub no_hand : v.part ≡ 0 → length v.hand ≡ 0
  pub no_credit : v.part ≡ 0 → v.credit ≡ 0
  pub no_look : v.part ≡ 0 → v.look ≡ None
  pub no_chain : v.part ≡ 0 → v.chain ≡ None

pub record StackLaw (w : World) : Type 0 where
  pub common : List ℕ
  pub spelled : Spells (link_in w.links) w.head.top common
  -- each element is common, in one hand, or held
  pub one_place : (i : ℕ) →
      bag common i + hands i w.views + all_zeros i w.views + min 1 (all_holds i w.views w.desks)
      ≡ below w.limits.population i
  pub credited : w.length + credits w.views ≡ length common
  pub views : (k : ℕ) → StackView w.limits.population (every_part w.limits) w.head (link_in w.links) (view_at w.views k)
  pub parts : parts w.views ≡ every_part w.limits
  pub all_links : length w.links ≡ w.limits.population
  pub links_in_range : (i : ℕ) → link_in w.links i ≤ w.limits.population
  pub top_in_range : w.head.top ≤ w.limits.population

-- what the counts' part says of one view of part 0
pub record CountView (v : View) : Type 0 where
  pub no_zeros : v.part ≡ 0 → length v.zeros ≡ 0
  pub no_holds : v.part ≡ 0 → length v.holds ≡ 0

-- a count is the number of holds; where nobody holds the element it is 1, or 0 for the moment
pub record HoldLaw (w : World) : Type 0 where
  pub counted : (i : ℕ) → i < w.limits.population →
      slice_index w.counts i + all_zeros i w.views ≡ max 1 (all_holds i w.views w.desks)
  pub limited : (i : ℕ) → slice_index w.counts i ≤ w.limits.ref_limit
  pub some_limit : 1 ≤ w.limits.ref_limit
  pub all_counts : length w.counts ≡ w.limits.population
  pub views : (k : ℕ) → CountView (view_at w.views k)

pub record BoardLaw (w : World) : Type 0 where
  pub words : (d : ℕ) → (desk_at w.desks d).word ≤ 3
  -- a word of 1 or of 3 is in one view's work, and any other in nobody's
  pub filled : (d : ℕ) → sum_by (λ v. fills d v.work) w.views ≡ one_if ((desk_at w.desks d).word == 1)
  pub emptied : (d : ℕ) → sum_by (λ v. empties d v.work) w.views ≡ one_if ((desk_at w.desks d).word == 3)
  pub empty : (d : ℕ) → (desk_at w.desks d).word ≡ 0 → (desk_at w.desks d).slot ≡ None
  pub full : (d : ℕ) → (desk_at w.desks d).word ≡ 2 → (p : Packet) × ((desk_at w.desks d).slot ≡ Some p)
  pub views : (k : ℕ) → (view_at w.views k).part ≡ 0 → (view_at w.views k).work ≡ None

-- the slot of a busy desk is as its worker left it
pub record SlotLaw (w : World) : Type 0 where
  pub slots : (k : ℕ) → IfSome (view_at w.views k).work (λ x. (desk_at w.desks x.desk).slot ≡ left_in x.phase)

pub record FourLaws (w : World) : Type 0 where
  pub stack : StackLaw w
  pub counts : HoldLaw w
  pub desks : BoardLaw w
  pub slots : SlotLaw w
