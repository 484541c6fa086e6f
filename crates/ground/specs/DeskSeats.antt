-- What the six steps of the desks make of a seat. An Open and a Seize that won are noted with the
-- packet that moved.
use Rattle.std.specs.Prelude.{◌≡◌, ℕ, List, [], ◌∷◌, Option, Some, None}
use Rattle.commons.specs.Packets.{holds_of_packet}
use Rattle.commons.specs.declared.packet.Seg.{Seg}
use Rattle.step_core.specs.Bags.{Includes}
use Rattle.step_core.specs.Headers.{OwnsHeaders}
use Rattle.step_core.specs.Views.{view_after, phase_at, working, opened}
use Rattle.step_core.specs.declared.step.Step.TheVariants.{Hold, PutIn, Open, Seize, TakeOut, Clear}
use Rattle.step_core.specs.declared.step.Outcome.TheVariants.{Won, Done, Found}
use Rattle.step_core.specs.declared.view.Phase.TheVariants.{Filled, Seized}
use Rattle.step_core.specs.declared.view.View.{View}
use Rattle.ground.specs.Seats.{Seated, after, view_with_slot, laid_on}

-- the seat with these slots
abbrev pub with_slots : Seated → List (ℕ × Option (List Seg)) → Seated
with_slots s slots = record s { slots = slots }

-- the seat, which knows this to lie on desk d if it knows what lies on the desks
abbrev pub laid : ℕ → Option (List Seg) → Seated → Seated
laid d slot s = record s { known = record s.known { lying = laid_on d slot s.known.lying } }

-- what is in the slot may be given away: the worker holds it, and its own elements are distinct
-- headers of the worker
pub record MayOpen (d : ℕ) (v : View) : Type 0 where
  pub packet : List Seg
  pub phase : phase_at d v.work ≡ Some (Filled packet)
  pub held : Includes v.holds (holds_of_packet packet)
  pub owned : OwnsHeaders v packet

-- each says what the seat is then, and that its view, read off seat and slot, is as the step
-- leaves it
abbrev pub Holds : ℕ → Seated → Seated → Type 0
Holds d s t =
    (t ≡ with_slots
    (after s ((Hold d, Won) ∷ []) (view_after None (Hold d) Won s.known.view)) ((d, None) ∷ []))
    × (view_with_slot t ≡ view_after None (Hold d) Won (view_with_slot s))

abbrev pub Fills : ℕ → List Seg → Seated → Seated → Type 0
Fills d p s t =
    (t ≡ with_slots s ((d, Some p) ∷ []))
    × (view_with_slot t ≡ view_after None (PutIn d p) Done (view_with_slot s))

abbrev pub Opens : ℕ → Seated → Seated → Type 0
Opens d s t =
    (p : List Seg) × (phase_at d (view_with_slot s).work ≡ Some (Filled p))
    × (t ≡ with_slots (laid d (Some p)
    (after s ((Open d, Found p) ∷ []) (working (opened s.known.view p) None))) [])
    × (view_with_slot t ≡ view_after (Some p) (Open d) Done (view_with_slot s))

abbrev pub Seizes : ℕ → List Seg → Seated → Seated → Type 0
Seizes d p s t =
    (t ≡ with_slots (laid d None
    (after s ((Seize d, Found p) ∷ []) (view_after (Some p) (Seize d) Won s.known.view))) ((d, Some p) ∷ []))
    × (view_with_slot t ≡ view_after (Some p) (Seize d) Won (view_with_slot s))

abbrev pub Empties : ℕ → List Seg → Seated → Seated → Type 0
Empties d p s t =
    (phase_at d (view_with_slot s).work ≡ Some (Seized p))
    × (t ≡ with_slots s ((d, None) ∷ []))
    × (view_with_slot t ≡ view_after (Some p) (TakeOut d) (Found p) (view_with_slot s))

abbrev pub Clears : ℕ → Seated → Seated → Type 0
Clears d s t =
    (t ≡ with_slots (after s ((Clear d, Done) ∷ []) (working s.known.view None)) [])
    × (view_with_slot t ≡ view_after None (Clear d) Done (view_with_slot s))
