-- Numbers: how a word spells one.
use Rattle.std.specs.Prelude.{◌≡◌, ℕ, ◌+◌, ◌-◌, ◌*◌, ◌^◌, ◌<◌, ◌≤◌, List, [], ◌∷◌, length}
use Rattle.std.specs.List.{AllByRecursion}

-- `0` to `9`
abbrev pub IsDigit : ℕ → Type 0
IsDigit byte = (48 ≤ byte) × (byte ≤ 57)

-- the value of decimal digits, the first of which counts most
abbrev pub digits_value : List ℕ → ℕ
digits_value [] = 0
digits_value (digit ∷ digits) = (digit - 48) * 10 ^ length digits + digits_value digits

-- the word is 1 to 20 digits with this value, which is below 2^64
pub record IsNumber (word : List ℕ) (value : ℕ) : Type 0 where
  pub some : 1 ≤ length word
  pub few : length word ≤ 20
  pub digits : AllByRecursion IsDigit word
  pub value_is : value ≡ digits_value word
  pub fits : value < 2 ^ 64
