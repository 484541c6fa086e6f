-- What comes of the audit of a snapshot.
use Rattle.std.specs.Prelude.{◌≡◌, ◌≢◌, ◌⊎◌, ℕ, List, ◌++◌, codes}
use Rattle.audit_text.specs.FaultText.{fault_text}
use Rattle.commons.specs.Bounds.{IsPool}
use Rattle.commons.specs.declared.refusal.Refusal.{Refusal}
use Rattle.commons.specs.declared.refusal.Refusal.TheVariants.{BadPool}
use Rattle.commons.specs.declared.refusal.Refusal.TheVariants as refusals
use Rattle.statement_text.specs.StatementData.{json_of, json_of_settled}
use Rattle.pool_statement.specs.declared.settled.Settled.{Settled}
use Rattle.pool_statement.specs.declared.statement.Statement.{Statement}
use Rattle.pool_picture.specs.Picture.{dot_of}
use Rattle.snapshot.specs.declared.snapshot.Snapshot.{Snapshot}
use Rattle.snapshot.specs.Faults.{IsFirstFault}
use Rattle.snapshot.specs.Snapshots.{IsLawful, statement_in}
use Rattle.snapshot.specs.declared.fault.Fault as faults
use Rattle.snapshot_json.specs.Reading.{IsFaultOf, IsNoSnapshotText, IsSnapshotText}
use Rattle.snapshot_json.specs.declared.fault.SnapshotFault.{SnapshotFault}
use Rattle.snapshot_json.specs.declared.fault.SnapshotFault.TheVariants as reads
use Rattle.statement_text.specs.StatementText.{text_of, text_of_settled}
use Rattle.tasks.specs.declared.auditing.Placed.{Placed}
use Rattle.tasks.specs.declared.failures.Failure.{Failure}
use Rattle.tasks.specs.declared.failures.Failure.TheVariants.{Fault, Misread, Audited}
use Rattle.tasks.specs.declared.task.Form.{Form}
use Rattle.tasks.specs.declared.task.Form.TheVariants.{Text, Json}

-- this is a statement in this form
abbrev pub IsStatementAs : Form → Statement → List ℕ → Type 0
IsStatementAs Text s out = out ≡ text_of s
IsStatementAs Json s out = out ≡ json_of s ++ codes "\n"

-- this is what two pools, or one, come to in this form
abbrev pub IsSettledAs : Form → Settled → List ℕ → Type 0
IsSettledAs Text s out = out ≡ text_of_settled s
IsSettledAs Json s out = out ≡ json_of_settled s ++ codes "\n"

-- the snapshot is lawful, and this is its statement in this form
pub record IsPlacedAs (form : Form) (s : Snapshot) (out : List ℕ) : Type 0 where
  pub lawful : IsLawful s
  pub written : IsStatementAs form (statement_in s) out

-- the snapshot is lawful, with these limits and this statement
pub record IsPlacedIn (s : Snapshot) (placed : Placed) : Type 0 where
  pub lawful : IsLawful s
  pub limits : placed.limits ≡ s.limits
  pub statement : placed.statement ≡ statement_in s

-- the bytes are a lawful snapshot's, with these limits and this statement
pub record IsAuditOf (bytes : List ℕ) (placed : Placed) : Type 0 where
  pub snapshot : Snapshot
  pub reads : IsSnapshotText bytes snapshot
  pub places : IsPlacedIn snapshot placed

-- the bytes are a lawful snapshot's, and this is the picture of its pool
pub record IsPictureOf (bytes out : List ℕ) : Type 0 where
  pub placed : Placed
  pub audited : IsAuditOf bytes placed
  pub drawn : out ≡ dot_of placed.statement

-- the bytes are a snapshot's, and this is printed for its audit in this form
pub record IsAuditPrintedAs (form : Form) (bytes out : List ℕ) : Type 0 where
  pub snapshot : Snapshot
  pub reads : IsSnapshotText bytes snapshot
  pub placed : IsPlacedAs form snapshot out

-- this fault of a snapshot is reported: by its line, or memory was refused
abbrev pub IsFaultIn : Snapshot → faults.Fault → Failure → Type 0
IsFaultIn s fault (Audited line) = line.items ≡ fault_text s fault
IsFaultIn s fault failure = failure ≡ Fault refusals.OutOfMemory

-- why a refusal comes of a snapshot: its limits are those of no pool, or memory was refused
abbrev pub IsRefusalIn : Snapshot → Refusal → Type 0
IsRefusalIn s BadPool = ¬ (IsPool s.limits)
IsRefusalIn s refusal = refusal ≡ refusals.OutOfMemory

-- the line is that of the first fault of a snapshot
pub record IsFirstLine (s : Snapshot) (line : List ℕ) : Type 0 where
  pub fault : faults.Fault
  pub first : IsFirstFault s fault
  pub told : line ≡ fault_text s fault

-- the failure that came of a snapshot
abbrev pub IsFailureIn : Snapshot → Failure → Type 0
IsFailureIn s (Audited line) = IsFirstLine s line.items
IsFailureIn s (Fault refusal) = IsRefusalIn s refusal
IsFailureIn s _ = ⊥

-- this fault of a reading is reported: as itself, but for memory that was refused
abbrev pub IsMisread : SnapshotFault → Failure → Type 0
IsMisread fault (Misread told) = (told ≡ fault) × (fault ≢ reads.OutOfMemory)
IsMisread fault failure = (failure ≡ Fault refusals.OutOfMemory) × (fault ≡ reads.OutOfMemory)

-- the failure that came of bytes which are a snapshot's
pub record FailsSnapshot (bytes : List ℕ) (failure : Failure) : Type 0 where
  pub snapshot : Snapshot
  pub reads : IsSnapshotText bytes snapshot
  pub came : IsFailureIn snapshot failure

-- that of bytes which aren't, or of memory that was refused for their reading
abbrev pub FailsBytes : List ℕ → Failure → Type 0
FailsBytes bytes (Misread fault) = IsNoSnapshotText bytes × IsFaultOf bytes fault
FailsBytes bytes failure = failure ≡ Fault refusals.OutOfMemory

-- the failure that came of the audit of bytes
abbrev pub IsAuditCause : List ℕ → Failure → Type 0
IsAuditCause bytes failure = FailsBytes bytes failure ⊎ FailsSnapshot bytes failure
