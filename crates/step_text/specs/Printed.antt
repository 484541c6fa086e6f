-- All that is printed of a script of steps.
use Rattle.std.specs.Prelude.{ℕ, ◌≡◌, List, ◌++◌}
use Rattle.script_text.specs.StepLine.{StepLine}
use Rattle.script_text.specs.StepGrammar.{IsStepScript}
use Rattle.step_core.specs.World.{World, Limits}
use Rattle.step_core.specs.Opening.{opening}
use Rattle.step_text.specs.WorldText.{IsTextOf}
use Rattle.step_text.specs.Playing.{lines_text, after_lines}

-- a line for each step, from this world on, and then the world that they lead to
pub record IsPrintedFrom (w : World) (lines : List StepLine) (out : List ℕ) : Type 0 where
  pub world : List ℕ
  pub shown : IsTextOf (after_lines w lines) world
  pub is : out ≡ lines_text w lines ++ world

-- this is printed for steps on a new pool
abbrev pub IsPrintedFor : Limits → List StepLine → List ℕ → Type 0
IsPrintedFor limits lines out = IsPrintedFrom (opening limits) lines out

-- the bytes are a script of steps, and this is printed for it
pub record IsStepsPrint (bytes out : List ℕ) : Type 0 where
  pub limits : Limits
  pub lines : List StepLine
  pub script : IsStepScript bytes limits lines
  pub printed : IsPrintedFor limits lines out
