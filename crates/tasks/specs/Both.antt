-- What comes of the audit of a text that is one snapshot's or two.
use Rattle.std.specs.Prelude.{◌≡◌, ◌⊎◌, List, ℕ, Some}
use Rattle.commons.specs.declared.refusal.Refusal.{Refusal}
use Rattle.commons.specs.declared.refusal.Refusal.TheVariants.{OutOfMemory}
use Rattle.tasks.specs.Audits.{IsAuditCause, IsAuditOf, IsAuditPrintedAs, IsSettledAs}
use Rattle.tasks.specs.Halves.{AreTwoTexts, IsOneText}
use Rattle.tasks.specs.declared.auditing.Placed.{Placed}
use Rattle.tasks.specs.declared.failures.Cause.TheVariants as causes
use Rattle.tasks.specs.declared.failures.Failure.{Failure}
use Rattle.tasks.specs.declared.failures.Failure.TheVariants.{Fault, Misread, Audited, OfTwo}
use Rattle.tasks.specs.declared.failures.Which.{Which}
use Rattle.tasks.specs.declared.failures.Which.TheVariants.{First, Second}
use Rattle.tasks.specs.declared.task.Form.{Form}

-- Both are lawful snapshots', and this is their statements in this form, as of the two pools of a
-- script.
pub record IsBothAs (form : Form) (first second out : List ℕ) : Type 0 where
  pub one : Placed
  pub other : Placed
  pub first_read : IsAuditOf first one
  pub second_read : IsAuditOf second other
  pub written : IsSettledAs form (record { first = one.statement; second = Some other.statement }) out

-- the bytes are two texts, and this is printed for them in this form
pub record IsBothPrintedAs (form : Form) (bytes out : List ℕ) : Type 0 where
  pub first : List ℕ
  pub second : List ℕ
  pub parted : AreTwoTexts bytes first second
  pub printed : IsBothAs form first second out

-- this is printed for the audit of bytes, of one snapshot or of two, in this form
abbrev pub IsAuditDoneAs : Form → List ℕ → List ℕ → Type 0
IsAuditDoneAs form bytes out =
    (IsOneText bytes × IsAuditPrintedAs form bytes out) ⊎ IsBothPrintedAs form bytes out

-- what is reported of a refusal of one of two: that it is this one's, but where memory was refused
abbrev pub refusal_of : Which → Refusal → Failure
refusal_of which OutOfMemory = Fault OutOfMemory
refusal_of which refusal = OfTwo which (causes.Refused refusal)

-- and of a failure of its audit
abbrev pub failure_of : Which → Failure → Failure
failure_of which (Fault refusal) = refusal_of which refusal
failure_of which (Misread fault) = OfTwo which (causes.Misread fault)
failure_of which (Audited line) = OfTwo which (causes.Audited line)
failure_of which failure = failure

-- the failure that came of one of two, by what such a failure comes of alone
pub record FailsOne (IsCause : List ℕ → Failure → Type 0) (which : Which) (bytes : List ℕ) (failure : Failure) : Type 0 where
  pub alone : Failure
  pub cause : IsCause bytes alone
  pub told : failure ≡ failure_of which alone

-- The failure that came of two: memory was refused; or it is the first one's; or the first one is fine,
-- and it is the second's.
abbrev pub FailsEither : (List ℕ → Type 0) → (List ℕ → Failure → Type 0) → List ℕ → List ℕ → Failure → Type 0
FailsEither IsFine IsCause first second failure =
    (failure ≡ Fault OutOfMemory)
    ⊎ (FailsOne IsCause First first failure ⊎ (IsFine first × FailsOne IsCause Second second failure))

-- the bytes are a lawful snapshot's
pub record HasAudit (bytes : List ℕ) : Type 0 where
  pub placed : Placed
  pub audited : IsAuditOf bytes placed

-- the bytes are two texts, and this failure came of them
pub record FailsBoth (bytes : List ℕ) (failure : Failure) : Type 0 where
  pub first : List ℕ
  pub second : List ℕ
  pub parted : AreTwoTexts bytes first second
  pub came : FailsEither HasAudit IsAuditCause first second failure

-- the failure that came of the audit of bytes, of one snapshot or of two
abbrev pub IsAuditDoneCause : List ℕ → Failure → Type 0
IsAuditDoneCause bytes failure = (IsOneText bytes × IsAuditCause bytes failure) ⊎ FailsBoth bytes failure
