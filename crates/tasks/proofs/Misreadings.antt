-- What is reported of bytes that are no snapshot's.
use Rattle.std.proofs.Common.{ℕ, List, ◌≡◌, ◌≢◌, subst, sym}
use Rattle.snapshot_json.specs.Reading.{IsFaultOf, IsNoSnapshotText}
use Rattle.snapshot_json.specs.declared.fault.SnapshotFault.{SnapshotFault}
use Rattle.snapshot_json.specs.declared.fault.SnapshotFault.TheVariants as reads
use Rattle.snapshot_json.specs.Repeats.{IsNoRepeatingText, IsTextFaultOf}
use Rattle.tasks.specs.Audits.{FailsBytes, IsMisread}
use Rattle.tasks.specs.Listings.{FailsText}
use Rattle.tasks.specs.declared.failures.Failure.{Failure}
use Rattle.tasks.specs.declared.failures.Failure.TheVariants.{Unreadable, Fault, Misread, Audited, OfTwo}

-- what is reported of a fault of their reading is the failure that came of them
pub told_of_bytes : (bytes : List ℕ) (fault : SnapshotFault) (failure : Failure) → (fault ≢ reads.OutOfMemory → IsNoSnapshotText bytes)
    → IsFaultOf bytes fault → IsMisread fault failure → FailsBytes bytes failure
told_of_bytes bytes fault (Misread told) none tells so = (none so.1, subst (IsFaultOf bytes) (sym so.0) tells)
told_of_bytes bytes fault (Unreadable file) none tells so = so.0
told_of_bytes bytes fault (Fault refusal) none tells so = so.0
told_of_bytes bytes fault (Audited line) none tells so = so.0
told_of_bytes bytes fault (OfTwo which cause) none tells so = so.0

-- and so where a list may have elements twice
pub told_of_text : (bytes : List ℕ) (fault : SnapshotFault) (failure : Failure) → (fault ≢ reads.OutOfMemory → IsNoSnapshotText bytes)
    → (fault ≢ reads.OutOfMemory → IsNoRepeatingText bytes) → IsTextFaultOf bytes fault → IsMisread fault failure → FailsText bytes failure
told_of_text bytes fault (Misread told) none unlisted tells so =
    (none so.1, unlisted so.1, subst (IsTextFaultOf bytes) (sym so.0) tells)
told_of_text bytes fault (Unreadable file) none unlisted tells so = so.0
told_of_text bytes fault (Fault refusal) none unlisted tells so = so.0
told_of_text bytes fault (Audited line) none unlisted tells so = so.0
told_of_text bytes fault (OfTwo which cause) none unlisted tells so = so.0
