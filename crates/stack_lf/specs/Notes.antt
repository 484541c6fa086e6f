-- What the steps of a call took of the stack and its length, and gave to them, in their order.
use Rattle.std.specs.Prelude.{◌≡◌, ◌≢◌, ℕ, ◌<◌, List, [], ◌∷◌, length, flat_map, All, Result, Ok, Err}
use Rattle.commons.specs.declared.refusal.Refusal.{Refusal}
use Rattle.commons.specs.declared.refusal.Refusal.TheVariants.{NoEntries}
use Rattle.step_core.specs.declared.step.Step.{Step}
use Rattle.step_core.specs.declared.step.Step.TheVariants.{Reserve, Add, Cut, Push}
use Rattle.step_core.specs.declared.step.Outcome.{Outcome}
use Rattle.step_core.specs.declared.step.Outcome.TheVariants.{Won, Got, Done}
use Rattle.ground.specs.Seats.{Note}
use Rattle.commons.specs.Calls.{Call}
use Rattle.commons.specs.declared.limits.Limits.{Limits}
use Rattle.stack_lf.specs.Tries.{Try, ReserveFailed, PopFailed, PushFailed, RaiseFailed, IsGet, IsPut, IsOfCall, notes_of}

-- the list that a cut gave, if it won
abbrev pub cut_by : Step → Outcome → List (List ℕ)
cut_by Cut (Got front) = front ∷ []
cut_by step outcome = []

-- how much a reservation took off the length, if it won
abbrev pub reserved_by : Step → Outcome → List ℕ
reserved_by (Reserve old n) Won = n ∷ []
reserved_by step outcome = []

-- how much the length was raised by
abbrev pub added_by : Step → Outcome → List ℕ
added_by (Add n) Done = n ∷ []
added_by step outcome = []

-- one for a push that won
abbrev pub pushed_by : Step → Outcome → List ℕ
pushed_by Push Won = 1 ∷ []
pushed_by step outcome = []

-- all of a kind in these steps
abbrev pub in_notes : {A : Type 0} → (Step → Outcome → List A) → List Note → List A
in_notes {A} f ns = flat_map (λ (n : Note). f n.0 n.1) ns

abbrev pub lists_cut : List Try → List (List ℕ)
lists_cut ts = in_notes cut_by (notes_of ts)

abbrev pub amounts_reserved : List Try → List ℕ
amounts_reserved ts = in_notes reserved_by (notes_of ts)

abbrev pub amounts_added : List Try → List ℕ
amounts_added ts = in_notes added_by (notes_of ts)

abbrev pub pushes_won : List Try → ℕ
pushes_won ts = length (in_notes pushed_by (notes_of ts))

-- What the steps of a get took and gave, by its answer. One that succeeded reserved once, cut its
-- list off at once, and gave nothing back. One that found too few reserved none. Any other that
-- was refused cut nothing off, and gave back what it reserved.
abbrev pub TakesOnce : ℕ → Result (List ℕ) Refusal → List Try → Type 0
TakesOnce n (Ok xs) ts =
    (lists_cut ts ≡ xs ∷ []) × (length xs ≡ n)
    × (amounts_reserved ts ≡ n ∷ []) × (amounts_added ts ≡ [])
TakesOnce n (Err NoEntries) ts =
    (lists_cut ts ≡ []) × (amounts_reserved ts ≡ []) × (amounts_added ts ≡ [])
TakesOnce n (Err _) ts =
    (lists_cut ts ≡ []) × (amounts_added ts ≡ amounts_reserved ts)

abbrev pub GetsCutOnce : Type 0
GetsCutOnce =
    (tries n : ℕ) (answer : Result (List ℕ) Refusal) (ts : List Try) →
    IsGet tries n answer ts → TakesOnce n answer ts

-- What the steps of a put gave: one push that won and its length, or nothing.
abbrev pub GivesOnce : List ℕ → Result (Unit {0}) Refusal → List Try → Type 0
GivesOnce xs (Ok _) ts = (pushes_won ts ≡ 1) × (amounts_added ts ≡ length xs ∷ [])
GivesOnce xs (Err _) ts = (pushes_won ts ≡ 0) × (amounts_added ts ≡ [])

abbrev pub PutsPushOnce : Type 0
PutsPushOnce =
    (tries : ℕ) (xs : List ℕ) (answer : Result (Unit {0}) Refusal) (ts : List Try) →
    IsPut tries xs answer ts → GivesOnce xs answer ts

-- An exchange that lost found another value than the try had read: another length, or a later
-- head, so that the stack was changed after the look.
abbrev pub LostToAnother : Try → Type 0
LostToAnother (ReserveFailed n read found) = found ≢ read
LostToAnother (PopFailed read walk found) = read.count < found.count
LostToAnother (PushFailed read list found) = read.count < found.count
LostToAnother (RaiseFailed i read found) = found ≢ read
LostToAnother x = Unit {0}

abbrev pub LossesAreChanges : Type 0
LossesAreChanges =
    (l : Limits) (call : Call) (ts : List Try) → IsOfCall l call ts → All LostToAnother ts
