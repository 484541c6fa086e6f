-- What is printed in each form, and for each task.
use Rattle.std.specs.Prelude.{ℕ, suc, ◌≡◌, List, ◌++◌, codes}
use Rattle.statement_text.specs.StatementData.{numbers_of}
use Rattle.pool_statement.specs.declared.settled.Settled.{Settled}
use Rattle.script.specs.Losing.{IsCauseWithout, LosesFrom, lost_text}
use Rattle.script.specs.Printed.{IsJsonFor, IsPrintedFor}
use Rattle.script.specs.Running.{RunsTo}
use Rattle.script.specs.Snapshots.{IsRunSnapshotFor, IsSnapshotFor}
use Rattle.script.specs.declared.threaded.Grounds.{Grounds}
use Rattle.script_text.specs.Grammar.{IsCause}
use Rattle.script_text.specs.StepGrammar.{IsStepCause}
use Rattle.snapshot_json.specs.Reading.{max_bytes}
use Rattle.step_text.specs.Printed.{IsStepsPrint}
use Rattle.tasks.specs.Audits.{IsAuditCause, IsPictureOf, IsSettledAs}
use Rattle.tasks.specs.Both.{IsAuditDoneAs, IsAuditDoneCause}
use Rattle.tasks.specs.Failures.{IsFaultOf}
use Rattle.tasks.specs.declared.failures.Failure.{Failure}
use Rattle.tasks.specs.declared.kind.Kind.{Kind}
use Rattle.tasks.specs.declared.kind.Kind.TheVariants.{Script, Snapshot}
use Rattle.tasks.specs.declared.task.Form.{Form}
use Rattle.tasks.specs.declared.task.Form.TheVariants.{Text, Json}
use Rattle.tasks.specs.declared.task.Task.{Task}
use Rattle.tasks.specs.declared.task.Task.TheVariants.{Replay, ReplaySnapshot, Run, RunSnapshot, RunLost, Steps, Audit, Picture}

-- the bytes are a script, and this is printed for its replay in this form
abbrev pub IsPrintedAs : Form → List ℕ → List ℕ → Type 0
IsPrintedAs Text = IsPrintedFor
IsPrintedAs Json = IsJsonFor

-- the bytes are a script, and this is printed for its run in threads on such a ground in this form
pub record IsRunPrintedAs (grounds : Grounds) (form : Form) (bytes out : List ℕ) : Type 0 where
  pub settled : Settled
  pub runs : RunsTo grounds bytes settled
  pub written : IsSettledAs form settled out

-- these are the lost elements in this form
abbrev pub AreElementsAs : Form → List ℕ → List ℕ → Type 0
AreElementsAs Text elems out = out ≡ lost_text elems
AreElementsAs Json elems out = out ≡ numbers_of elems ++ codes "\n"

-- The bytes are a script, and this is printed in this form for its run in threads on such a ground,
-- at whose end this worker is lost.
pub record IsLostPrintedAs (grounds : Grounds) (lose : ℕ) (form : Form) (bytes out : List ℕ) : Type 0 where
  pub elems : List ℕ
  pub loses : LosesFrom grounds lose bytes elems
  pub written : AreElementsAs form elems out

-- the bytes are a script or a snapshot, and this is printed for what is done with it
abbrev pub IsDoneAs : Task → List ℕ → List ℕ → Type 0
IsDoneAs (Replay form) = IsPrintedAs form
IsDoneAs ReplaySnapshot = IsSnapshotFor
IsDoneAs (Run grounds turns form) = IsRunPrintedAs grounds form
IsDoneAs (RunSnapshot grounds turns) = IsRunSnapshotFor grounds
IsDoneAs (RunLost grounds turns lose form) = IsLostPrintedAs grounds lose form
IsDoneAs Steps = IsStepsPrint
IsDoneAs (Audit form) = IsAuditDoneAs form
IsDoneAs Picture = IsPictureOf

-- the failure that comes of what is to be done with these bytes
abbrev pub IsCauseFor : Task → List ℕ → Failure → Type 0
IsCauseFor (Replay form) bytes = IsFaultOf (IsCause bytes)
IsCauseFor ReplaySnapshot bytes = IsFaultOf (IsCause bytes)
IsCauseFor (Run grounds turns form) bytes = IsFaultOf (IsCause bytes)
IsCauseFor (RunSnapshot grounds turns) bytes = IsFaultOf (IsCause bytes)
IsCauseFor (RunLost grounds turns lose form) bytes = IsFaultOf (IsCauseWithout lose bytes)
IsCauseFor Steps bytes = IsFaultOf (IsStepCause bytes)
IsCauseFor (Audit form) bytes = IsAuditDoneCause bytes
IsCauseFor Picture bytes = IsAuditCause bytes

-- the most bytes of such a file that are read: one more than it may have
abbrev pub most_read : Kind → ℕ
most_read Script = 1048577
most_read Snapshot = suc max_bytes

-- what it is done with: a snapshot, or a script
abbrev pub kind_of : Task → Kind
kind_of (Audit form) = Snapshot
kind_of Picture = Snapshot
kind_of _ = Script
