-- What is true of a worker's view by itself, so that no step of another worker can end it.
use Rattle.std.specs.Prelude.{◌≡◌, ℕ, ◌+◌, ◌<◌, ◌≤◌, List, [], ◌∷◌, Option, Some, None, IfSome, IsSome}
use Rattle.commons.specs.Bag.{bag}
use Rattle.commons.specs.Bounds.{IsPool}
use Rattle.commons.specs.declared.limits.Limits.{Limits}
use Rattle.commons.specs.declared.packet.Seg.{Seg}
use Rattle.commons.specs.Packets.{IsPacket}
use Rattle.step_core.specs.declared.view.Phase.{Phase}
use Rattle.step_core.specs.declared.view.Phase.TheVariants.{ToFill, Filled, Seized, TakenOut}
use Rattle.step_core.specs.declared.view.View.{View}
use Rattle.step_core.specs.declared.view.Work.{Work}
use Rattle.step_core.specs.Links.{first_value}
use Rattle.ground.specs.declared.known.Known.{Known}
use Rattle.step_core.specs.World.{every_part}

pub record Owned (l : Limits) (v : View) : Type 0 where
  pub pool : IsPool l
  pub busy : 0 < v.part
  pub within : v.part ≤ every_part l
  -- an element of the pool is in the hand, or of count 0 for the moment, at most once, and no other
  -- element is
  pub hand_once : (i : ℕ) → bag v.hand i + bag v.zeros i ≤ 1
  pub hand_below : (i : ℕ) → l.population ≤ i → bag v.hand i + bag v.zeros i ≡ 0
  -- an element that is held is one of the pool's, and isn't in the hand
  pub held_below : (i : ℕ) → l.population ≤ i → bag v.holds i ≡ 0
  pub apart : (i : ℕ) → 0 < bag v.holds i → bag v.hand i + bag v.zeros i ≡ 0
  -- a header is one once, and is held
  pub header_once : (i : ℕ) → bag v.headers i ≤ 1
  pub header_held : (i : ℕ) → 0 < bag v.headers i → 0 < bag v.holds i
  -- link values are within the population
  pub look : IfSome v.look (λ k. (k.next ≤ l.population) × (k.head.top ≤ l.population))
  pub chain :
      IfSome v.chain (λ c. (c.end ≤ l.population) × (first_value c.items ≤ l.population))

-- What a word step leaves of a work, and what its slot may hold since: it is to be filled, with
-- whatever packet, or was seized with a packet, and has that one or none.
abbrev pub IsSince : Phase → Option (List Seg) → Type 0
IsSince ToFill slot = IfSome slot IsPacket
IsSince (Filled p) slot = ⊥
IsSince (Seized p) slot = IsPacket p × IfSome slot (λ q. q ≡ p)
IsSince TakenOut slot = ⊥

-- the slot of a busy desk is out with the seat that works at it, and no other is
abbrev pub AtDesk : Option Work → List (ℕ × Option (List Seg)) → Type 0
AtDesk None slots = slots ≡ []
AtDesk (Some x) slots =
    (slot : Option (List Seg)) × (slots ≡ (x.desk, slot) ∷ []) × IsSince x.phase slot

-- the only seat of a pool, which has every part of it, knows what lies on the desks
abbrev pub KnowsDesks : Known → Type 0
KnowsDesks n = n.view.part ≡ every_part n.limits → IsSome n.lying

-- between calls: nothing is reserved, nothing chained, no element has count 0, and no desk is busy
pub record AtRest (v : View) : Type 0 where
  pub zeros : v.zeros ≡ []
  pub credit : v.credit ≡ 0
  pub chain : v.chain ≡ None
  pub work : v.work ≡ None

-- a seat that is taking others in: it has a part, is between calls, and no slot is out with it
pub record IsGathering (n : Known) (out : List (ℕ × Option (List Seg))) : Type 0 where
  pub busy : 0 < n.view.part
  pub rest : AtRest n.view
  pub slots : out ≡ []
