-- What a run of the program comes to, and its status.
use Rattle.std.specs.Prelude.{ℕ, ◌≡◌, List, Option, ◌⊎◌}
use Rattle.command_line.specs.Statuses.{IsToldWith, OtherStays, TellsMemory, status_of}
use Rattle.command_line.specs.declared.unasked.Unasked.{Unasked}
use Rattle.command_line.specs.declared.unasked.Unasked.TheVariants.{Memory}
use Rattle.script_io.specs.declared.reading.ReadFault.{ReadFault}
use Rattle.tasks.specs.Ends.{status_of_end}
use Rattle.tasks.specs.Explained.{EndsExplained}
use Rattle.tasks.specs.Forms.{kind_of}
use Rattle.tasks.specs.Listings.{EndsAsListing}
use Rattle.tasks.specs.Pairs.{EndsAsPair}
use Rattle.tasks.specs.Replays.{EndsAs}
use Rattle.tasks.specs.declared.kind.Kind.{Kind}
use Rattle.tasks.specs.declared.kind.Kind.TheVariants.{Snapshot}
use Rattle.tasks.specs.Telling.{Heard, IsUntold}
use Rattle.tasks.specs.declared.printing.End.{End}
use Rattle.tasks.specs.declared.printing.End.TheVariants.{Untold}
use Rattle.tasks.specs.declared.task.Asked.{Asked}
use Rattle.tasks.specs.declared.task.Asked.TheVariants.{One, Explained, Two, All}

-- how the print of what was asked for ended: of a task with a file, explained or not, of two
-- snapshots, or of all faults
abbrev pub EndsAsked : (Kind → List ℕ → List ℕ → Type 0) → (Kind → List ℕ → ReadFault → Type 0) → Asked
    → Option (List ℕ) → Option (List ℕ) → Option (List ℕ) → Option (List ℕ) → End → Type 0
EndsAsked Gives Fails (One request) =
    EndsAs (Gives (kind_of request.task) request.file.now) (Fails (kind_of request.task) request.file.now)
    request.file.now request.task
EndsAsked Gives Fails (Explained request) =
    EndsExplained (Gives (kind_of request.task) request.file.now) (Fails (kind_of request.task) request.file.now)
    request.file.now request.task
EndsAsked Gives Fails (Two pair) = EndsAsPair (Gives Snapshot) (Fails Snapshot) pair.newer.now pair.older.now pair.form
EndsAsked Gives Fails (All listing) =
    EndsAsListing (Gives Snapshot listing.file.now) (Fails Snapshot listing.file.now) listing.file.now listing.form

-- The print of what was asked for ended so, on the output and on the errors, and the status is that of
-- this end: 0 where the whole print was written and it tells of no faults, else 1. A failure whose line
-- wasn't written whole is one that the errors failed at.
pub record Ends (Gives : Kind → List ℕ → List ℕ → Type 0) (Fails : Kind → List ℕ → ReadFault → Type 0)
    (asked : Asked) (output output' : Option (List ℕ)) (errors errors' : Heard) (status : ℕ) : Type 0 where
  pub end : End
  pub ends : EndsAsked Gives Fails asked output output' errors.contents errors'.contents end
  pub untold : end ≡ Untold → IsUntold errors errors'
  pub tells : status ≡ status_of_end end

-- so of something that can be asked for
pub record RunsTask (Gives : Kind → List ℕ → List ℕ → Type 0) (Fails : Kind → List ℕ → ReadFault → Type 0)
    (output output' : Option (List ℕ)) (errors errors' : Heard) (status : ℕ) : Type 0 where
  pub asked : Asked
  pub ends : Ends Gives Fails asked output output' errors errors' status

-- it was said why nothing was done, on one of the two: the other is as it was. The status is 2 where
-- the words are wrong, 1 where memory was refused, whose line is known, and 0 or 1 for help and the
-- version.
pub record Says (unasked : Unasked) (output output' : Option (List ℕ)) (errors errors' : Heard) (status : ℕ) : Type 0 where
  pub tells : IsToldWith (status_of unasked) status
  pub other : OtherStays unasked output output' errors.contents errors'.contents
  pub memory : unasked ≡ Memory → TellsMemory errors errors'

-- nothing was asked for that can be done
pub record TellsWhy (output output' : Option (List ℕ)) (errors errors' : Heard) (status : ℕ) : Type 0 where
  pub unasked : Unasked
  pub says : Says unasked output output' errors errors' status

-- one of these two
abbrev pub RunsSo : (Kind → List ℕ → List ℕ → Type 0) → (Kind → List ℕ → ReadFault → Type 0)
    → Option (List ℕ) → Option (List ℕ) → Heard → Heard → ℕ → Type 0
RunsSo Gives Fails output output' errors errors' status =
    RunsTask Gives Fails output output' errors errors' status ⊎ TellsWhy output output' errors errors' status
