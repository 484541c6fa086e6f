-- What is told behind the line of a script's fault.
use Rattle.std.specs.Prelude.{◌≡◌, ℕ, List, ◌++◌, codes}
use Rattle.script_reasons.specs.Lines.{IsExplained, IsStepExplained}
use Rattle.script_reasons.specs.Texts.{text_of}
use Rattle.script_reasons.specs.declared.reason.Explanation.{Explanation}
use Rattle.script_reasons.specs.declared.second.Second.{Second}
use Rattle.script_reasons.specs.declared.second.Second.TheVariants.{Line, NoMemory}

-- it is this explanation, or memory was refused
abbrev pub IsWritten : Explanation → Second → Type 0
IsWritten explanation (Line text) = text.items ≡ text_of explanation
IsWritten explanation NoMemory = Unit {0}

-- the text is an explanation of such a line
pub record Explains (IsLine : ℕ → Type 0) (text : List ℕ) : Type 0 where
  pub explanation : Explanation
  pub line : IsLine explanation.line
  pub written : text ≡ text_of explanation

-- it explains why the bytes are no script of commands, or memory was refused
abbrev pub IsSecond : List ℕ → Second → Type 0
IsSecond bytes (Line text) = Explains (IsExplained bytes) text.items
IsSecond bytes NoMemory = Unit {0}

-- so of a script of steps
abbrev pub IsStepSecond : List ℕ → Second → Type 0
IsStepSecond bytes (Line text) = Explains (IsStepExplained bytes) text.items
IsStepSecond bytes NoMemory = Unit {0}

-- the line, as it is written
abbrev pub second_text : Second → List ℕ
second_text (Line text) = text.items ++ codes "\n"
second_text NoMemory = codes "not explained: memory was refused\n"
