-- The status that the program ends with where the words of its command line ask for nothing that
-- can be done.
use Rattle.std.specs.Prelude.{ℕ, ◌≡◌, ◌≢◌, ◌<◌, ◌≤◌, ◌⊎◌, List, Option}
use Rattle.std.specs.Io.KnownBytes.{Appends}
use Rattle.clap.specs.Values.{kind_of}
use Rattle.clap.specs.declared.error.Error.{Error}
use Rattle.clap.specs.declared.error.kind.ErrorKind.{ErrorKind}
use Rattle.clap.specs.declared.error.kind.ErrorKind.TheVariants.{DisplayHelp, DisplayVersion, OutOfMemory}
use Rattle.commons.specs.declared.refusal.Refusal.TheVariants as refusals
use Rattle.command_line.specs.declared.unasked.Unasked.{Unasked}
use Rattle.command_line.specs.declared.unasked.Unasked.TheVariants.{Said, Memory}
use Rattle.tasks.specs.Failures.{line_of}
use Rattle.tasks.specs.Telling.{Heard, IsUntold}
use Rattle.tasks.specs.declared.failures.Failure.TheVariants.{Fault}

-- what an error of this kind says of the words: that memory was refused, or itself
abbrev pub unasked_of_kind : ErrorKind → Error → Unasked
unasked_of_kind OutOfMemory error = Memory
unasked_of_kind _ error = Said error

-- what an error says of them
abbrev pub unasked_by : Error → Unasked
unasked_by error = unasked_of_kind (kind_of error) error

-- 0 where help or the version was asked for, and 2 for a mistake
abbrev pub status_of_kind : ErrorKind → ℕ
status_of_kind DisplayHelp = 0
status_of_kind DisplayVersion = 0
status_of_kind _ = 2

-- the status of the program, where the text can be written
abbrev pub status_of : Unasked → ℕ
status_of (Said error) = status_of_kind (kind_of error)
status_of Memory = 1

-- what is said of such words may end with this status: their own, or for help and the version 1 too
abbrev pub IsToldWith : ℕ → ℕ → Type 0
IsToldWith own status = (0 < own → status ≡ own) × (own ≡ 0 → status ≤ 1)

-- an error is told on the errors: neither help nor the version was asked for
abbrev pub IsMistake : Error → Type 0
IsMistake error = (kind_of error ≢ DisplayHelp) × (kind_of error ≢ DisplayVersion)

-- what is said goes to the errors, but help and the version to the output: the other of the two is as
-- it was
abbrev pub OtherStays : Unasked → Option (List ℕ) → Option (List ℕ) → Option (List ℕ) → Option (List ℕ) → Type 0
OtherStays (Said error) output output' errors errors' =
    (IsMistake error → output' ≡ output) × (¬ IsMistake error → errors' ≡ errors)
OtherStays Memory output output' errors errors' = output' ≡ output

-- the line of memory that was refused was written on the errors, or they failed
abbrev pub TellsMemory : Heard → Heard → Type 0
TellsMemory errors errors' =
    Appends errors.contents errors'.contents (line_of (Fault refusals.OutOfMemory)) ⊎ IsUntold errors errors'
