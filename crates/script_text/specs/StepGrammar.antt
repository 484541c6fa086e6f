-- The grammar of scripts of steps: which bytes are which script, and which line is the first
-- faulty one.
use Rattle.std.specs.Prelude.{ℕ, Bool, false, List}
use Rattle.commons.specs.declared.limits.Limits.{Limits}
use Rattle.commons.specs.declared.refusal.Refusal.{Refusal}
use Rattle.script_text.specs.declared.steps.Step.{Step}
use Rattle.script_text.specs.StepLine.{StepLine, IsStep, no_names}
use Rattle.script_text.specs.PoolLine.{one_pool}
use Rattle.script_text.specs.Scripts as scripts
use Rattle.script_text.specs.Scripts.{Language}

-- no step is of a second pool
abbrev pub needs_none : Step → Bool
needs_none step = false

-- the language of steps, which knows no second pool
abbrev pub steps : Language Step
steps = record {
  IsCommand = IsStep;
  names_made = no_names;
  knows_second = false;
  needs_second = needs_none;
}

-- the bytes are the script with one pool of these limits and with these steps
abbrev pub IsStepScript : List ℕ → Limits → List StepLine → Type 0
IsStepScript bytes limits lines = scripts.IsScript steps bytes (one_pool limits) lines

-- the first faulty line has this number; it is 0 where there are more bytes than a script has
abbrev pub IsFirstStepFault : List ℕ → ℕ → Type 0
IsFirstStepFault bytes number = scripts.IsFirstFault steps bytes number

-- the pool line has a reading, as each line before it, and no pools have its numbers
abbrev pub HasBadStepPool : List ℕ → Type 0
HasBadStepPool bytes = scripts.HasBadPool steps bytes

-- why the bytes are refused; of a refusal for lack of memory nothing is said, and no other is
-- given
abbrev pub IsStepCause : List ℕ → Refusal → Type 0
IsStepCause bytes refusal = scripts.IsCause steps bytes refusal

-- the bytes are some script of steps
pub record IsSomeStepScript (bytes : List ℕ) : Type 0 where
  pub limits : Limits
  pub lines : List StepLine
  pub script : IsStepScript bytes limits lines

-- some line of the bytes is the first faulty one
abbrev pub HasSomeStepFault : List ℕ → Type 0
HasSomeStepFault bytes = scripts.HasSomeFault steps bytes
