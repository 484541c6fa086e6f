-- What the program says of a failure.
use Rattle.std.specs.Prelude.{◌≡◌, ℕ, List, ◌++◌, codes, decimal}
use Rattle.commons.specs.declared.refusal.Refusal.{Refusal}
use Rattle.commons.specs.declared.refusal.Refusal.TheVariants as refusals
use Rattle.commons.specs.Refusals.{number_of, text_of}
use Rattle.script_io.specs.declared.reading.ReadFault.{ReadFault}
use Rattle.script_io.specs.declared.reading.ReadFault.TheVariants.{Device, Memory}
use Rattle.snapshot_json.specs.Told.{told_of}
use Rattle.tasks.specs.declared.failures.Cause.{Cause}
use Rattle.tasks.specs.declared.failures.Cause.TheVariants as causes
use Rattle.tasks.specs.declared.failures.Failure.{Failure}
use Rattle.tasks.specs.declared.failures.Failure.TheVariants.{Unreadable, Fault, Misread, Audited, OfTwo}
use Rattle.tasks.specs.declared.failures.Which.{Which}
use Rattle.tasks.specs.declared.failures.Which.TheVariants.{First, Second}

-- this file can't be read
abbrev pub IsUnreadable : List ℕ → Failure → Type 0
IsUnreadable file (Unreadable named) = named.now ≡ file
IsUnreadable file _ = ⊥

-- how a fault of reading this file is reported: a lack of memory as that, and a device that fails
-- as a file that can't be read
abbrev pub IsUnread : List ℕ → ReadFault → Failure → Type 0
IsUnread file Device failure = IsUnreadable file failure
IsUnread file Memory failure = failure ≡ Fault refusals.OutOfMemory

-- a failure that is a refusal with such a cause
abbrev pub IsFaultOf : (Refusal → Type 0) → Failure → Type 0
IsFaultOf Cause (Fault refusal) = Cause refusal
IsFaultOf Cause _ = ⊥

-- the line that tells of a fault
abbrev pub fault_text : Refusal → List ℕ
fault_text refusal =
    codes "fault " ++ decimal (number_of refusal) ++ codes " " ++ text_of refusal

-- what stands in front of the line of one of two snapshots
abbrev pub front_of : Which → List ℕ
front_of First = codes "first: "
front_of Second = codes "second: "

-- the line behind that
abbrev pub cause_line : Cause → List ℕ
cause_line (causes.Refused refusal) = fault_text refusal ++ codes "\n"
cause_line (causes.Misread fault) = told_of fault ++ codes "\n"
cause_line (causes.Audited line) = line.items ++ codes "\n"

-- the line that tells of a failure
abbrev pub line_of : Failure → List ℕ
line_of (Unreadable file) = codes "cannot read " ++ file.now ++ codes "\n"
line_of (Fault refusal) = fault_text refusal ++ codes "\n"
line_of (Misread fault) = told_of fault ++ codes "\n"
line_of (Audited line) = line.items ++ codes "\n"
line_of (OfTwo which cause) = front_of which ++ cause_line cause
