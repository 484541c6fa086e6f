-- Which line of a script is explained.
use Rattle.std.specs.Prelude.{◌≡◌, ℕ, ◌+◌, List, ◌∷◌, ◌++◌, length}
use Rattle.std.specs.List.{AllByRecursion}
use Rattle.script_text.specs.Grammar.{IsFirstFault, HasBadPool}
use Rattle.script_text.specs.StepGrammar.{IsFirstStepFault, HasBadStepPool}
use Rattle.script_text.specs.Text.{AreLines, IsSkipped}

-- the first line that isn't skipped has this number
pub record IsFirstWritten (bytes : List ℕ) (number : ℕ) : Type 0 where
  pub before : List (List ℕ)
  pub line : List ℕ
  pub left : List (List ℕ)
  pub rest : List ℕ
  pub are_lines : AreLines bytes (before ++ line ∷ left) rest
  pub skipped : AllByRecursion IsSkipped before
  pub written : IsSkipped line → ⊥
  pub number_is : number ≡ length before + 1

-- the line with this number is why the bytes are no script of commands: it is the first faulty one,
-- or the pool line, where no pools can be made within its limits
pub data IsExplained (bytes : List ℕ) (number : ℕ) : Type 0 where
  faulty : IsFirstFault bytes number → IsExplained bytes number
  bad_pool : HasBadPool bytes → IsFirstWritten bytes number → IsExplained bytes number

-- so of a script of steps
pub data IsStepExplained (bytes : List ℕ) (number : ℕ) : Type 0 where
  faulty_step : IsFirstStepFault bytes number → IsStepExplained bytes number
  bad_step_pool : HasBadStepPool bytes → IsFirstWritten bytes number → IsStepExplained bytes number
