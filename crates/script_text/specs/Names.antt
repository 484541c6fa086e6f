-- Names: which words are one.
use Rattle.std.specs.Prelude.{ℕ, ◌≤◌, ◌⊎◌, List, [], ◌∷◌, length}
use Rattle.std.specs.List.{AllByRecursion}
use Rattle.script_text.specs.Numbers.{IsDigit}

-- `a` to `z`
abbrev pub IsLetter : ℕ → Type 0
IsLetter byte = (97 ≤ byte) × (byte ≤ 122)

-- the first byte is a letter
abbrev pub BeginsWithLetter : List ℕ → Type 0
BeginsWithLetter [] = ⊥
BeginsWithLetter (byte ∷ bytes) = IsLetter byte

-- the word is 1 to 16 letters and digits, and begins with a letter
pub record IsName (word : List ℕ) : Type 0 where
  pub first : BeginsWithLetter word
  pub few : length word ≤ 16
  pub each : AllByRecursion (λ byte. IsLetter byte ⊎ IsDigit byte) word
