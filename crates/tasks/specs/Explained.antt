-- What comes of a script, with what explains its failure.
use Rattle.std.specs.Prelude.{ℕ, ◌≡◌, List, Option, None, Some, [], ◌++◌, ◌⊎◌, MatchOption}
use Rattle.script_io.specs.declared.reading.ReadFault.{ReadFault}
use Rattle.script_reasons.specs.Seconds.{IsSecond, IsStepSecond, second_text}
use Rattle.script_reasons.specs.declared.second.Second.{Second}
use Rattle.script_text.specs.Grammar.{IsSomeScript}
use Rattle.script_text.specs.StepGrammar.{IsSomeStepScript}
use Rattle.tasks.specs.Failures.{line_of}
use Rattle.tasks.specs.Forms.{IsCauseFor, kind_of}
use Rattle.tasks.specs.Replays.{EndsWith, FailsReading, PrintsReading}
use Rattle.tasks.specs.declared.explaining.ExplainedFailure.{ExplainedFailure}
use Rattle.tasks.specs.declared.kind.Kind.{Kind}
use Rattle.tasks.specs.declared.kind.Kind.TheVariants.{Script, Snapshot}
use Rattle.tasks.specs.declared.printing.End.{End}
use Rattle.tasks.specs.declared.task.Task.{Task}
use Rattle.tasks.specs.declared.task.Task.TheVariants.{Steps}

-- nothing is told of a script of commands, and of other bytes why they are none; a snapshot has no
-- such line
abbrev pub IsSecondOf : Kind → List ℕ → Option Second → Type 0
IsSecondOf Script bytes second = MatchOption second (IsSomeScript bytes) (IsSecond bytes)
IsSecondOf Snapshot bytes second = second ≡ None

-- so of what a task is done with
abbrev pub IsSecondFor : Task → List ℕ → Option Second → Type 0
IsSecondFor Steps bytes second = MatchOption second (IsSomeStepScript bytes) (IsStepSecond bytes)
IsSecondFor task bytes second = IsSecondOf (kind_of task) bytes second

-- a reading gave bytes, and they are the cause of this failure of the task, and are explained so
pub record FailsTaskExplained (Gives : List ℕ → Type 0) (task : Task) (failure : ExplainedFailure) : Type 0 where
  pub bytes : List ℕ
  pub given : Gives bytes
  pub cause : IsCauseFor task bytes failure.failure
  pub second : IsSecondFor task bytes failure.second

-- a reading of this file failed, and there is nothing to explain
pub record FailsUnread (Fails : ReadFault → Type 0) (file : List ℕ) (failure : ExplainedFailure) : Type 0 where
  pub reading : FailsReading Fails file failure.failure
  pub second : failure.second ≡ None

-- the failure that came, and what explains it
abbrev pub FailsExplained : (List ℕ → Type 0) → (ReadFault → Type 0) → List ℕ → Task → ExplainedFailure → Type 0
FailsExplained Gives Fails file task failure =
    FailsUnread Fails file failure ⊎ FailsTaskExplained Gives task failure

-- the line that explains a failure, if there is one
abbrev pub told_second : Option Second → List ℕ
told_second None = []
told_second (Some second) = second_text second

-- the line that tells of a failure, and behind it the one that explains it
abbrev pub line_of_explained : ExplainedFailure → List ℕ
line_of_explained failure = line_of failure.failure ++ told_second failure.second

-- how such a task with a file ended
abbrev pub EndsExplained : (List ℕ → Type 0) → (ReadFault → Type 0) → List ℕ → Task
    → Option (List ℕ) → Option (List ℕ) → Option (List ℕ) → Option (List ℕ) → End → Type 0
EndsExplained Gives Fails file task =
    EndsWith (PrintsReading Gives task) (FailsExplained Gives Fails file task) line_of_explained
