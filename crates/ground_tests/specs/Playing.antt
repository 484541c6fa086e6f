-- What a step by a player does.
use Rattle.std.specs.Prelude.{◌≡◌, ℕ, ◌<◌, All, List, [], ◌∷◌, Option, Some, None, IfSome, Result, Ok, Err}
use Rattle.commons.specs.Bounds.{max_population}
use Rattle.commons.specs.declared.packet.Seg.{Seg}
use Rattle.commons.specs.declared.refusal.Refusal.{Refusal}
use Rattle.step_core.specs.declared.step.Step.{Step}
use Rattle.step_core.specs.declared.step.Step.TheVariants.{Hold, PutIn, Open, Seize, TakeOut, Clear}
use Rattle.step_core.specs.declared.step.Outcome.{Outcome}
use Rattle.step_core.specs.declared.step.Outcome.TheVariants.{Won, Done, Found}
use Rattle.step_core.specs.declared.view.Phase.TheVariants.{Seized}
use Rattle.step_core.specs.declared.view.View.{View}
use Rattle.step_core.specs.declared.view.Work.{Work}
use Rattle.step_core.specs.Views.{view_after, working, seized, at_desk}
use Rattle.ground.specs.DeskSeats.{Holds, Fills, Opens, Seizes, Empties, Clears}
use Rattle.ground.specs.Seats.{Seated, Steps}
use Rattle.ground_tests.specs.declared.sees.Sees.{Sees}
use Rattle.ground_tests.specs.declared.sees.Sees.TheVariants as sees

-- a chain is of elements that a pool can have
abbrev pub IsInPool : View → Type 0
IsInPool v = IfSome v.chain (λ c. All (λ x. x < max_population) c.items)

-- the seat took the step with its outcome: one of the desks with its slot, each other on a word
-- alone
abbrev pub Took : Step → Outcome → Seated → Seated → Type 0
Took (Hold d) Won s t = Holds d s t
Took (PutIn d p) Done s t = Fills d p s t
Took (Open d) Done s t = Opens d s t
Took (Seize d) Won s t = (p : List Seg) × Seizes d p s t
Took (TakeOut d) (Found p) s t = Empties d p s t
Took (Clear d) Done s t = Clears d s t
Took st o s t = Steps st o s t

-- and where it was refused, it stays as it was
abbrev pub Plays : Step → Result Outcome Refusal → Seated → Seated → Type 0
Plays st (Ok o) s t = Took st o s t
Plays st (Err cause) s t = t ≡ s

-- the view moved as the step says, and its chain is of the pool where it was before
abbrev pub ViewMoves : Step → Result Outcome Refusal → View → View → Type 0
ViewMoves st (Ok o) v w = (w ≡ view_after None st o v) × (IsInPool v → IsInPool w)
ViewMoves st (Err cause) v w = w ≡ v

-- the slots that are out with a seat which has this work, where this packet is in the slot, or none
abbrev pub slots_at : Option Work → Option (List Seg) → List (ℕ × Option (List Seg))
slots_at None slot = []
slots_at (Some x) slot = (x.desk, slot) ∷ []

-- the packet in the first of these slots
abbrev pub packet_in : List (ℕ × Option (List Seg)) → List Seg
packet_in [] = []
packet_in ((d, None) ∷ slots) = []
packet_in ((d, Some p) ∷ slots) = p

-- a view with this packet, seized from this desk
abbrev pub with_packet : ℕ → List Seg → View → View
with_packet d p v = working (seized v p) (at_desk d (Seized p))

-- what a seat knows, by what its player sees, and the slots that are out with it
abbrev pub known_by : Sees → View → List Seg → View
known_by sees.All v p = v
known_by (sees.Seizure d) v p = with_packet d p v
known_by (sees.Out d q) v p = with_packet d q v

abbrev pub slots_by : Sees → View → Option (List Seg) → List Seg → List (ℕ × Option (List Seg))
slots_by sees.All v slot p = slots_at v.work slot
slots_by (sees.Seizure d) v slot p = (d, Some p) ∷ []
slots_by (sees.Out d q) v slot p = (d, None) ∷ []

-- the player, which sees so much, has this view, and this packet for its slot, has this seat
pub record IsOfSeat (x : Sees) (v : View) (slot : Option (List Seg)) (s : Seated) : Type 0 where
  pub known : s.known.view ≡ known_by x v (packet_in s.slots)
  pub slots : s.slots ≡ slots_by x v slot (packet_in s.slots)

-- the view is what the seat knows, and the packet is what its slot has
pub record Mirrors (v : View) (slot : Option (List Seg)) (s : Seated) : Type 0 where
  pub view : v ≡ s.known.view
  pub slots : s.slots ≡ slots_at v.work slot
