-- What each step on a desk's word answers its seat. The desk is the one whose word it is.
use Rattle.std.specs.Prelude.{◌≡◌, ℕ, ◌==◌, Bool, true, false, List, [], ◌∷◌, ◌++◌, Option, Some, None}
use Rattle.atomic_table.specs.Table as table
use Rattle.commons.specs.declared.packet.Seg.{Seg}
use Rattle.step_core.specs.declared.step.Step.{Step}
use Rattle.step_core.specs.declared.step.Step.TheVariants.{Hold, Open, Seize, Clear}
use Rattle.step_core.specs.declared.step.Outcome.{Outcome}
use Rattle.step_core.specs.declared.step.Outcome.TheVariants.{Won, Lost, Done, Found}
use Rattle.step_core.specs.declared.view.View.{View}
use Rattle.step_core.specs.Views.{view_after, working, opened}
use Rattle.ground.specs.declared.known.Known.{Known}
use Rattle.ground.specs.Layout.{desk_standing_at}
use Rattle.ground.specs.Own.{Owned, AtDesk, KnowsDesks}
use Rattle.ground.specs.Rule.{Slot, Sat}
use Rattle.ground.specs.Seats.{laid_on, KnowsThere, KnowsEmpty, KnowsFull}
use Rattle.ground.specs.StepAnswers.{Noted}

abbrev pub desk_by : table.Step Slot → Known → ℕ
desk_by st n = desk_standing_at n.limits.population st.word

-- the seat after a step that moved a slot, and what is known to lie on the desks then
abbrev pub moved : Step → Outcome → View → Option (List Slot) → List (ℕ × Slot) → Sat → Sat
moved st o v lying slots m = (
  record {
    view = v;
    steps = m.0.steps ++ (st, o) ∷ [];
    limits = m.0.limits;
    lying = lying;
    joined = m.0.joined;
    loan = m.0.loan;
    parcel = m.0.parcel;
  },
  slots,
)

abbrev pub Moved : Step → Outcome → View → Option (List Slot) → List (ℕ × Slot) → Sat → Sat → Type 0
Moved st o v lying slots m m' =
    (m' ≡ moved st o v lying slots m) × Owned m.0.limits v × AtDesk v.work slots
    × KnowsDesks (moved st o v lying slots m).0

abbrev pub hold_found : Bool → ℕ → ℕ → Sat → Sat → Type 0
hold_found true d found m m' =
    Moved (Hold d) Won (view_after None (Hold d) Won m.0.view) m.0.lying ((d, None) ∷ []) m m'
    × KnowsEmpty d m.0
hold_found false d found m m' = Noted (Hold d) (Lost found) m m' × KnowsFull d m.0

abbrev pub hold_answers : table.Step Slot → Sat → ℕ → Sat → Type 0
hold_answers st m found m' = hold_found (found == st.first) (desk_by st m.0) found m m'

-- what was in the slot is noted with the step
abbrev pub open_answers : table.Step Slot → Sat → ℕ → Sat → Type 0
open_answers st m found m' =
    (p : List Seg) × (m.1 ≡ (desk_by st m.0, Some p) ∷ [])
    × Moved (Open (desk_by st m.0)) (Found p) (working (opened m.0.view p) None)
    (laid_on (desk_by st m.0) (Some p) m.0.lying) [] m m'

abbrev pub seize_found : Bool → ℕ → ℕ → Sat → Sat → Type 0
seize_found true d found m m' =
    (p : List Seg)
    × Moved (Seize d) (Found p) (view_after (Some p) (Seize d) Won m.0.view)
    (laid_on d None m.0.lying) ((d, Some p) ∷ []) m m'
    × KnowsThere d p m.0
seize_found false d found m m' = Noted (Seize d) (Lost found) m m' × KnowsEmpty d m.0

abbrev pub seize_answers : table.Step Slot → Sat → ℕ → Sat → Type 0
seize_answers st m found m' = seize_found (found == st.first) (desk_by st m.0) found m m'

abbrev pub clear_answers : table.Step Slot → Sat → ℕ → Sat → Type 0
clear_answers st m found m' =
    Moved (Clear (desk_by st m.0)) Done (working m.0.view None) m.0.lying [] m m'
