-- What comes of the listing of all faults of a text that is one snapshot's or two.
use Rattle.std.specs.Prelude.{ℕ, ◌≡◌, ◌⊎◌, ◌==◌, ◌+◌, List, [], ◌++◌, Option, codes, decimal, if◌then◌else◌, length}
use Rattle.audit_text.specs.FaultData.{faults_data, json_of, two_data}
use Rattle.audit_text.specs.FaultText.{lines_text}
use Rattle.commons.specs.Bounds.{IsPool}
use Rattle.commons.specs.declared.refusal.Refusal.TheVariants.{OutOfMemory}
use Rattle.script_io.specs.declared.reading.ReadFault.{ReadFault}
use Rattle.snapshot.specs.AllFaults.{AreAllFaults, IsTold, IsToldOn}
use Rattle.snapshot.specs.Snapshots.{walk}
use Rattle.snapshot.specs.declared.fault.Fault as faults
use Rattle.snapshot.specs.declared.snapshot.Snapshot.{Snapshot}
use Rattle.snapshot_json.specs.Reading.{IsNoSnapshotText}
use Rattle.snapshot_json.specs.Repeats.{IsNoRepeatingText, IsTextFaultOf, IsTextOf}
use Rattle.snapshot_json.specs.declared.text.Text as said
use Rattle.snapshot_json.specs.declared.text.Text.TheVariants.{One, Repeating}
use Rattle.tasks.specs.Audits.{IsRefusalIn}
use Rattle.tasks.specs.Both.{FailsEither}
use Rattle.tasks.specs.Failures.{line_of}
use Rattle.tasks.specs.Halves.{AreTwoTexts, IsOneText}
use Rattle.tasks.specs.Replays.{FailsReading, FailsSo, PrintsFile, PrintsPart, TellsFailure}
use Rattle.tasks.specs.declared.failures.Failure.{Failure}
use Rattle.tasks.specs.declared.failures.Failure.TheVariants.{Fault, Misread}
use Rattle.tasks.specs.declared.listed.Found.{Found}
use Rattle.tasks.specs.declared.listed.Print.{Print}
use Rattle.tasks.specs.declared.printing.End.{End}
use Rattle.tasks.specs.declared.printing.End.TheVariants.{BrokenOff, Listed, Printed, Told, Untold}
use Rattle.tasks.specs.declared.task.Form.{Form}
use Rattle.tasks.specs.declared.task.Form.TheVariants.{Text, Json}

-- ---- what a text says

-- the snapshot that a text says
abbrev pub snapshot_in : said.Text → Snapshot
snapshot_in (One s) = s
snapshot_in (Repeating r) = r.snapshot

-- its stack, from the top down: the walk along its links, or the list that stands for them
abbrev pub stack_in : said.Text → List ℕ
stack_in (One s) = walk s
stack_in (Repeating r) = r.common

-- the faults of it that are told
abbrev pub IsToldIn : said.Text → faults.Fault → Type 0
IsToldIn (One s) = IsTold s
IsToldIn (Repeating r) = IsToldOn r.common r.snapshot

-- the snapshot that a text says, whose limits are those of a pool, its stack, and all its faults
pub record IsListedOf (text : said.Text) (listed : Found) : Type 0 where
  pub snapshot : listed.snapshot ≡ snapshot_in text
  pub stack : listed.stack ≡ stack_in text
  pub pool : IsPool listed.snapshot.limits
  pub faults : AreAllFaults (IsToldIn text) listed.faults.items

-- those of what the bytes say
pub record HasFaults (bytes : List ℕ) (listed : Found) : Type 0 where
  pub text : said.Text
  pub reads : IsTextOf bytes text
  pub lists : IsListedOf text listed

-- so of some text and some faults
pub record HasSomeFaults (bytes : List ℕ) : Type 0 where
  pub listed : Found
  pub has : HasFaults bytes listed

-- ---- what is printed

-- the line of a number of faults
abbrev pub count_text : ℕ → List ℕ
count_text n = if n == 1 then codes "1 fault\n" else decimal n ++ codes " faults\n"

-- a line for each fault, with this in front of it
abbrev pub lines_in : List ℕ → Found → List ℕ
lines_in front listed = lines_text front listed.stack listed.snapshot listed.faults.items

-- this is printed of the faults of one snapshot in this form
abbrev pub IsListingAs : Form → Found → List ℕ → Type 0
IsListingAs Text listed out = out ≡ lines_in [] listed ++ count_text (length listed.faults.items)
IsListingAs Json listed out =
    out ≡ json_of (faults_data listed.stack listed.snapshot listed.faults.items) ++ codes "\n"

-- and of those of two
abbrev pub IsListingOfBothAs : Form → Found → Found → List ℕ → Type 0
IsListingOfBothAs Text one other out =
    out ≡ (lines_in (codes "first: ") one ++ lines_in (codes "second: ") other)
    ++ count_text (length one.faults.items + length other.faults.items)
IsListingOfBothAs Json one other out =
    out ≡ json_of (two_data
    (faults_data one.stack one.snapshot one.faults.items)
    (faults_data other.stack other.snapshot other.faults.items)) ++ codes "\n"

-- the bytes are a snapshot's, and this is printed of all its faults
pub record IsOneListing (form : Form) (bytes : List ℕ) (print : Print) : Type 0 where
  pub listed : Found
  pub has : HasFaults bytes listed
  pub printed : IsListingAs form listed print.text.items
  pub count : print.count ≡ length listed.faults.items

-- both are a snapshot's, and this is printed of all their faults
pub record IsBothListing (form : Form) (first second : List ℕ) (print : Print) : Type 0 where
  pub one : Found
  pub other : Found
  pub first_has : HasFaults first one
  pub second_has : HasFaults second other
  pub printed : IsListingOfBothAs form one other print.text.items
  pub count : print.count ≡ length one.faults.items + length other.faults.items

-- the bytes are two texts, and this is printed of the faults of both
pub record IsTwoListing (form : Form) (bytes : List ℕ) (print : Print) : Type 0 where
  pub first : List ℕ
  pub second : List ℕ
  pub parted : AreTwoTexts bytes first second
  pub printed : IsBothListing form first second print

-- this is printed of all faults of bytes, of one snapshot or of two, in this form
abbrev pub IsListingOf : Form → List ℕ → Print → Type 0
IsListingOf form bytes print = (IsOneText bytes × IsOneListing form bytes print) ⊎ IsTwoListing form bytes print

-- a reading gave bytes, and this is printed of all their faults
pub record GivesListing (Gives : List ℕ → Type 0) (form : Form) (print : Print) : Type 0 where
  pub bytes : List ℕ
  pub given : Gives bytes
  pub printed : IsListingOf form bytes print

-- ---- the failures

-- why nothing is listed of a snapshot: its limits are those of no pool, or memory was refused
abbrev pub IsUnlisted : said.Text → Failure → Type 0
IsUnlisted text (Fault refusal) = IsRefusalIn (snapshot_in text) refusal
IsUnlisted text failure = ⊥

-- that of bytes which aren't a snapshot's, even one whose list has elements twice; or memory was
-- refused for their reading
abbrev pub FailsText : List ℕ → Failure → Type 0
FailsText bytes (Misread fault) = IsNoSnapshotText bytes × IsNoRepeatingText bytes × IsTextFaultOf bytes fault
FailsText bytes failure = failure ≡ Fault OutOfMemory

-- that of bytes which are a snapshot's
pub record FailsListed (bytes : List ℕ) (failure : Failure) : Type 0 where
  pub text : said.Text
  pub reads : IsTextOf bytes text
  pub came : IsUnlisted text failure

-- the failure that came of bytes of one snapshot
abbrev pub FailsListing : List ℕ → Failure → Type 0
FailsListing bytes failure = FailsText bytes failure ⊎ FailsListed bytes failure

-- the bytes are two texts, and this failure came of them
pub record FailsTwoListing (bytes : List ℕ) (failure : Failure) : Type 0 where
  pub first : List ℕ
  pub second : List ℕ
  pub parted : AreTwoTexts bytes first second
  pub came : FailsEither HasSomeFaults FailsListing first second failure

-- the failure that came of bytes, of one snapshot or of two
abbrev pub IsListingCause : List ℕ → Failure → Type 0
IsListingCause bytes failure = (IsOneText bytes × FailsListing bytes failure) ⊎ FailsTwoListing bytes failure

-- a reading gave bytes, and they are the cause of this failure
pub record GivesUnlisted (Gives : List ℕ → Type 0) (failure : Failure) : Type 0 where
  pub bytes : List ℕ
  pub given : Gives bytes
  pub cause : IsListingCause bytes failure

-- the failure that came of a file
abbrev pub FailsListingAt : (List ℕ → Type 0) → (ReadFault → Type 0) → List ℕ → Failure → Type 0
FailsListingAt Gives Fails file failure = FailsReading Fails file failure ⊎ GivesUnlisted Gives failure

-- ---- the end

-- a reading gave bytes, and this is printed of all their faults, which are so many
pub record ListsFaults (Gives : List ℕ → Type 0) (form : Form) (count : ℕ) (out : List ℕ) : Type 0 where
  pub print : Print
  pub gives : GivesListing Gives form print
  pub text : out ≡ print.text.items
  pub counted : print.count ≡ count

-- so of some number of faults
pub record ListsSome (Gives : List ℕ → Type 0) (form : Form) (out : List ℕ) : Type 0 where
  pub print : Print
  pub gives : GivesListing Gives form print
  pub text : out ≡ print.text.items

-- How the print of all faults of a file ended: a whole one tells how many they are.
abbrev pub EndsAsListing : (List ℕ → Type 0) → (ReadFault → Type 0) → List ℕ → Form
    → Option (List ℕ) → Option (List ℕ) → Option (List ℕ) → Option (List ℕ) → End → Type 0
EndsAsListing Gives Fails file form output output' errors errors' Printed = ⊥
EndsAsListing Gives Fails file form output output' errors errors' (Listed count) =
    PrintsFile (ListsFaults Gives form count) output output' × (errors' ≡ errors)
EndsAsListing Gives Fails file form output output' errors errors' (BrokenOff count) =
    PrintsPart (ListsSome Gives form) output output' count × (errors' ≡ errors)
EndsAsListing Gives Fails file form output output' errors errors' Told =
    TellsFailure (FailsListingAt Gives Fails file) line_of errors errors' × (output' ≡ output)
EndsAsListing Gives Fails file form output output' errors errors' Untold =
    FailsSo (FailsListingAt Gives Fails file) × (output' ≡ output)
