-- What comes of two snapshots of one pool.
use Rattle.std.specs.Prelude.{ℕ, ◌≡◌, ◌⊎◌, ◌==◌, Bool, not, List, [], ◌∷◌, ◌++◌, Option, None, Some, codes, decimal, find}
use Rattle.commons.specs.declared.limits.Limits.{Limits}
use Rattle.commons.specs.declared.limits.PutRule.{PutRule}
use Rattle.commons.specs.declared.limits.PutRule.TheVariants.{Keep, Whole}
use Rattle.commons.specs.declared.refusal.Refusal.{Refusal}
use Rattle.commons.specs.declared.refusal.Refusal.TheVariants.{OutOfMemory}
use Rattle.pool_statement.specs.declared.statement.Statement.{Statement}
use Rattle.script_io.specs.declared.reading.ReadFault.{ReadFault}
use Rattle.stays.specs.StayData.{since_json_of}
use Rattle.stays.specs.StayText.{since_text_of}
use Rattle.tasks.specs.Audits.{IsAuditCause, IsAuditOf}
use Rattle.tasks.specs.Failures.{line_of}
use Rattle.tasks.specs.Replays.{EndsWith, FailsReading}
use Rattle.tasks.specs.declared.auditing.Placed.{Placed}
use Rattle.tasks.specs.declared.comparing.Difference.{Difference}
use Rattle.tasks.specs.declared.comparing.Limit.{Limit}
use Rattle.tasks.specs.declared.comparing.Limit.TheVariants.{Population, Cache, Desks, Buf, Refs, Tries, Start, Rule}
use Rattle.tasks.specs.declared.failures.Failure.{Failure}
use Rattle.tasks.specs.declared.failures.Failure.TheVariants.{Unreadable, Fault, Misread, Audited, OfTwo}
use Rattle.tasks.specs.declared.failures.PairFailure.{PairFailure}
use Rattle.tasks.specs.declared.failures.PairFailure.TheVariants.{Newer, Older, Differ}
use Rattle.tasks.specs.declared.printing.End.{End}
use Rattle.tasks.specs.declared.task.Form.{Form}
use Rattle.tasks.specs.declared.task.Form.TheVariants.{Text, Json}

-- the name of a limit, as in a snapshot
abbrev pub name_of : Limit → List ℕ
name_of Population = codes "population"
name_of Cache = codes "cache"
name_of Desks = codes "desks"
name_of Buf = codes "buf"
name_of Refs = codes "refs"
name_of Tries = codes "tries"
name_of Start = codes "start"
name_of Rule = codes "putrule"

-- the number of a put rule, as in a snapshot
abbrev pub rule_number : PutRule → ℕ
rule_number Keep = 0
rule_number Whole = 1

-- Both pools' limits, in the order of a snapshot, with these numbers of their put rules. How many
-- workers there are is none of them: a dump has one for each cache that has something.
unfoldable pub limits_with : Limits → Limits → ℕ → ℕ → List Difference
limits_with newer older newer_rule older_rule =
    record { limit = Population; newer = newer.population; older = older.population }
    ∷ record { limit = Cache; newer = newer.cache; older = older.cache }
    ∷ record { limit = Desks; newer = newer.desks; older = older.desks }
    ∷ record { limit = Buf; newer = newer.buf; older = older.buf }
    ∷ record { limit = Refs; newer = newer.ref_limit; older = older.ref_limit }
    ∷ record { limit = Tries; newer = newer.tries; older = older.tries }
    ∷ record { limit = Start; newer = newer.start_count; older = older.start_count }
    ∷ record { limit = Rule; newer = newer_rule; older = older_rule }
    ∷ []

-- whether a limit differs
abbrev pub differs : Difference → Bool
differs both = not (both.newer == both.older)

-- the first that does
abbrev pub first_difference : Limits → Limits → Option Difference
first_difference newer older =
    find differs (limits_with newer older (rule_number newer.put_rule) (rule_number older.put_rule))

-- this is the newer statement in this form, and what stays since the older one
abbrev pub IsSinceAs : Form → Statement → Statement → List ℕ → Type 0
IsSinceAs Text newer older out = out ≡ since_text_of newer older
IsSinceAs Json newer older out = out ≡ since_json_of newer older ++ codes "\n"

-- a reading gave the bytes of a lawful snapshot, with these limits and this statement
pub record GivesAudited (Gives : List ℕ → Type 0) (placed : Placed) : Type 0 where
  pub bytes : List ℕ
  pub given : Gives bytes
  pub audited : IsAuditOf bytes placed

-- so of some limits and some statement
pub record GivesSome (Gives : List ℕ → Type 0) : Type 0 where
  pub placed : Placed
  pub gives : GivesAudited Gives placed

-- The readings of both files gave lawful snapshots of one pool, and this is printed for them in this
-- form.
pub record PrintsPair (GivesNewer GivesOlder : List ℕ → Type 0) (form : Form) (out : List ℕ) : Type 0 where
  pub newer : Placed
  pub older : Placed
  pub newer_read : GivesAudited GivesNewer newer
  pub older_read : GivesAudited GivesOlder older
  pub alike : first_difference newer.limits older.limits ≡ None
  pub written : IsSinceAs form newer.statement older.statement out

-- a reading gave bytes, and they are the cause of this failure of their audit
pub record FailsAudit (Gives : List ℕ → Type 0) (failure : Failure) : Type 0 where
  pub bytes : List ℕ
  pub given : Gives bytes
  pub cause : IsAuditCause bytes failure

-- the failure that came of the audit of a file
abbrev pub FailsAuditAt : (List ℕ → Type 0) → (ReadFault → Type 0) → List ℕ → Failure → Type 0
FailsAuditAt Gives Fails file failure = FailsReading Fails file failure ⊎ FailsAudit Gives failure

-- the readings gave lawful snapshots whose limits differ, and this is the first difference
pub record DiffersSo (GivesNewer GivesOlder : List ℕ → Type 0) (difference : Difference) : Type 0 where
  pub newer : Placed
  pub older : Placed
  pub newer_read : GivesAudited GivesNewer newer
  pub older_read : GivesAudited GivesOlder older
  pub first : first_difference newer.limits older.limits ≡ Some difference

-- The failure that came of two files, the newer one first: that of its audit, or memory was refused;
-- where it has none, that of the older one's; where neither has, a difference.
abbrev pub FailsPair : (List ℕ → List ℕ → Type 0) → (List ℕ → ReadFault → Type 0) → List ℕ → List ℕ → PairFailure → Type 0
FailsPair Gives Fails newer older (Newer failure) = FailsAuditAt (Gives newer) (Fails newer) newer failure
FailsPair Gives Fails newer older (Older failure) =
    GivesSome (Gives newer) × FailsAuditAt (Gives older) (Fails older) older failure
FailsPair Gives Fails newer older (Differ difference) = DiffersSo (Gives newer) (Gives older) difference

-- so of two snapshots that are lawful: they differ, or memory was refused
abbrev pub FailsAlike : Placed → Placed → PairFailure → Type 0
FailsAlike newer older (Newer failure) = failure ≡ Fault OutOfMemory
FailsAlike newer older (Older failure) = ⊥
FailsAlike newer older (Differ difference) = first_difference newer.limits older.limits ≡ Some difference

-- what stands in front of the line of a refusal of the older one: nothing where memory is missing
abbrev pub refusal_prefix : Refusal → List ℕ
refusal_prefix OutOfMemory = []
refusal_prefix _ = codes "since: "

-- and of a failure of it: nothing where a file is named
abbrev pub older_prefix : Failure → List ℕ
older_prefix (Unreadable file) = []
older_prefix (Fault refusal) = refusal_prefix refusal
older_prefix (Misread fault) = codes "since: "
older_prefix (Audited line) = codes "since: "
older_prefix (OfTwo which cause) = codes "since: "

-- a limit, and what it is in both
abbrev pub difference_text : Difference → List ℕ
difference_text both =
    codes "limits differ: " ++ name_of both.limit ++ codes " " ++ decimal both.newer
    ++ codes " and " ++ decimal both.older

-- the line that tells of a failure
abbrev pub line_of_pair : PairFailure → List ℕ
line_of_pair (Newer failure) = line_of failure
line_of_pair (Older failure) = older_prefix failure ++ line_of failure
line_of_pair (Differ difference) = difference_text difference ++ codes "\n"

-- how the print of two files ended
abbrev pub EndsAsPair : (List ℕ → List ℕ → Type 0) → (List ℕ → ReadFault → Type 0) → List ℕ → List ℕ → Form
    → Option (List ℕ) → Option (List ℕ) → Option (List ℕ) → Option (List ℕ) → End → Type 0
EndsAsPair Gives Fails newer older form =
    EndsWith (PrintsPair (Gives newer) (Gives older) form) (FailsPair Gives Fails newer older) line_of_pair
