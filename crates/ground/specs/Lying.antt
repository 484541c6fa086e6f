-- What lies on the desks, by what the seats have noted.
use Rattle.std.specs.Prelude.{◌≡◌, ℕ, ◌+◌, ◌==◌, ◌++◌, List, Option, Some, None, flat_map, sum_by, if◌then◌else◌}
use Rattle.commons.specs.declared.limits.Limits.{Limits}
use Rattle.commons.specs.declared.packet.Seg.{Seg}
use Rattle.step_core.specs.declared.step.Step.{Step}
use Rattle.step_core.specs.declared.step.Step.TheVariants.{Open, Seize}
use Rattle.step_core.specs.declared.step.Outcome.{Outcome}
use Rattle.step_core.specs.declared.step.Outcome.TheVariants.{Found}
use Rattle.step_core.specs.World.{World}
use Rattle.ground.specs.Closing.{lying_on}
use Rattle.ground.specs.History.{Log, Move, Led}
use Rattle.ground.specs.Seats.{on_desk}

-- what is counted of the packet with which desk d was opened, where the note tells of that; and of
-- the one that was seized
abbrev pub opened_by : ℕ → (List Seg → ℕ) → Step → Outcome → ℕ
opened_by d f (Open e) (Found p) = if e == d then f p else 0
opened_by d f step outcome = 0

abbrev pub seized_by : ℕ → (List Seg → ℕ) → Step → Outcome → ℕ
seized_by d f (Seize e) (Found p) = if e == d then f p else 0
seized_by d f step outcome = 0

abbrev pub opened_in : ℕ → (List Seg → ℕ) → List (Step × Outcome) → ℕ
opened_in d f notes = sum_by (λ note. opened_by d f note.0 note.1) notes

abbrev pub seized_in : ℕ → (List Seg → ℕ) → List (Step × Outcome) → ℕ
seized_in d f notes = sum_by (λ note. seized_by d f note.0 note.1) notes

-- what is counted of the packet that lies there, if any does
abbrev pub count_on : (List Seg → ℕ) → Option (List Seg) → ℕ
count_on f None = 0
count_on f (Some p) = f p

-- By these notes it lies there: of the packets with which a desk was opened, those that weren't
-- seized from it. So whatever is counted of packets: with a count of one packet alone, how often
-- that one was brought is how often it was taken, and once more where it lies there.
abbrev pub LieByNotes : List (Step × Outcome) → List (Option (List Seg)) → Type 0
LieByNotes notes desks =
    (d : ℕ) (f : List Seg → ℕ) →
    opened_in d f notes ≡ seized_in d f notes + count_on f (on_desk desks d)

-- the notes of all seats, one after another
abbrev pub notes_in : List Log → List (Step × Outcome)
notes_in logs = flat_map (λ log. log.0 ++ log.1) logs

-- over each history of the rule
abbrev pub NotesTellOfDesks : Type 0
NotesTellOfDesks =
    (l : Limits) (ms : List Move) (w : World) (logs : List Log) → Led l ms w logs →
    LieByNotes (notes_in logs) (lying_on w.desks)
