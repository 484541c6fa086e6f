-- What comes of a task with a file, whatever a reading of it gives; and how a print ended.
use Rattle.std.specs.Prelude.{ℕ, ◌≡◌, ◌<◌, List, Option, ◌⊎◌, length, take}
use Rattle.std.specs.Io.KnownBytes.{Appends}
use Rattle.script_io.specs.declared.reading.ReadFault.{ReadFault}
use Rattle.tasks.specs.declared.failures.Failure.{Failure}
use Rattle.tasks.specs.declared.printing.End.{End}
use Rattle.tasks.specs.declared.printing.End.TheVariants.{BrokenOff, Listed, Printed, Told, Untold}
use Rattle.tasks.specs.declared.task.Task.{Task}
use Rattle.tasks.specs.Failures.{IsUnread, line_of}
use Rattle.tasks.specs.Forms.{IsCauseFor, IsDoneAs}

-- a reading gave bytes, and this is printed for them for this task
pub record PrintsReading (Gives : List ℕ → Type 0) (task : Task) (out : List ℕ) : Type 0 where
  pub bytes : List ℕ
  pub given : Gives bytes
  pub printed : IsDoneAs task bytes out

-- a reading gave bytes, and they are the cause of this failure of the task
pub record FailsTask (Gives : List ℕ → Type 0) (task : Task) (failure : Failure) : Type 0 where
  pub bytes : List ℕ
  pub given : Gives bytes
  pub cause : IsCauseFor task bytes failure

-- a reading of this file failed, and this failure tells of it
pub record FailsReading (Fails : ReadFault → Type 0) (file : List ℕ) (failure : Failure) : Type 0 where
  pub fault : ReadFault
  pub failed : Fails fault
  pub told : IsUnread file fault failure

-- the failure that came
abbrev pub FailsAt : (List ℕ → Type 0) → (ReadFault → Type 0) → List ℕ → Task → Failure → Type 0
FailsAt Gives Fails file task failure = FailsReading Fails file failure ⊎ FailsTask Gives task failure

-- what is printed was added to what stood there
pub record PrintsFile (Prints : List ℕ → Type 0) (old new : Option (List ℕ)) : Type 0 where
  pub out : List ℕ
  pub prints : Prints out
  pub whole : Appends old new out

-- a failure came, and its line was added to what stood there
pub record TellsFailure {F : Type 0} (Came : F → Type 0) (line : F → List ℕ) (old new : Option (List ℕ)) : Type 0 where
  pub failure : F
  pub came : Came failure
  pub told : Appends old new (line failure)

-- exactly so many of the first bytes of what is printed, and not all, were added to what stood there
pub record PrintsPart (Prints : List ℕ → Type 0) (old new : Option (List ℕ)) (count : ℕ) : Type 0 where
  pub out : List ℕ
  pub prints : Prints out
  pub short : count < length out
  pub part : Appends old new (take count out)

-- a failure came
pub record FailsSo {F : Type 0} (Came : F → Type 0) : Type 0 where
  pub failure : F
  pub came : Came failure

-- How a print ended, with what may be printed, the failures that may come and their lines: what stood
-- on the output and on the errors before, and stands there afterwards. One of the two is as it was. Such
-- a print doesn't list faults.
abbrev pub EndsWith : {F : Type 0} → (List ℕ → Type 0) → (F → Type 0) → (F → List ℕ)
    → Option (List ℕ) → Option (List ℕ) → Option (List ℕ) → Option (List ℕ) → End → Type 0
EndsWith Prints Came line output output' errors errors' Printed = PrintsFile Prints output output' × (errors' ≡ errors)
EndsWith Prints Came line output output' errors errors' (Listed count) = ⊥
EndsWith Prints Came line output output' errors errors' (BrokenOff count) = PrintsPart Prints output output' count × (errors' ≡ errors)
EndsWith Prints Came line output output' errors errors' Told = TellsFailure Came line errors errors' × (output' ≡ output)
EndsWith Prints Came line output output' errors errors' Untold = FailsSo Came × (output' ≡ output)

-- how a task with a file ended
abbrev pub EndsAs : (List ℕ → Type 0) → (ReadFault → Type 0) → List ℕ → Task
    → Option (List ℕ) → Option (List ℕ) → Option (List ℕ) → Option (List ℕ) → End → Type 0
EndsAs Gives Fails file task = EndsWith (PrintsReading Gives task) (FailsAt Gives Fails file task) line_of
