-- Lines and words: how the bytes of a script are split.
use Rattle.std.specs.Prelude.{◌≡◌, ◌≢◌, ℕ, ◌≤◌, ◌⊎◌, List, [], ◌∷◌, ◌++◌, length}
use Rattle.std.specs.List.{AllByRecursion, flat_map}

-- no line ends here
abbrev pub IsUnbroken : List ℕ → Type 0
IsUnbroken bytes = AllByRecursion (λ byte. byte ≢ 10) bytes

-- a line with its end
abbrev pub with_end : List ℕ → List ℕ
with_end line = line ++ 10 ∷ []

-- the text is these lines, each with its end, and then a rest in which no line ends
pub record AreLines (text : List ℕ) (lines : List (List ℕ)) (rest : List ℕ) : Type 0 where
  pub whole : text ≡ flat_map with_end lines ++ rest
  pub each : AllByRecursion IsUnbroken lines
  pub last : IsUnbroken rest

-- a space, or a character that is printed
abbrev pub IsPrinted : ℕ → Type 0
IsPrinted byte = (32 ≤ byte) × (byte ≤ 126)

-- the line isn't too long, and has no other bytes than those
pub record IsPlain (line : List ℕ) : Type 0 where
  pub short : length line ≤ 8192
  pub printed : AllByRecursion IsPrinted line

-- spaces, or nothing
abbrev pub AreSpaces : List ℕ → Type 0
AreSpaces bytes = AllByRecursion (λ byte. byte ≡ 32) bytes

-- some bytes, none of them a space
pub record IsWord (word : List ℕ) : Type 0 where
  pub some : 1 ≤ length word
  pub unspaced : AllByRecursion (λ byte. byte ≢ 32) word

-- no word goes on here: it is the end, or there is a space
abbrev pub EndsWord : List ℕ → Type 0
EndsWord [] = Unit {0}
EndsWord (byte ∷ bytes) = byte ≡ 32

-- after spaces the line has this word, and then the rest
pub record BeginsWith (line word rest : List ℕ) : Type 0 where
  pub gap : List ℕ
  pub spaces : AreSpaces gap
  pub is_word : IsWord word
  pub ends : EndsWord rest
  pub whole : line ≡ gap ++ (word ++ rest)

-- the line has these words and no others
abbrev pub Spells : List ℕ → List (List ℕ) → Type 0
Spells line [] = AreSpaces line
Spells line (word ∷ words) = (rest : List ℕ) × BeginsWith line word rest × Spells rest words

-- only spaces, or a `#` after spaces
abbrev pub IsSkipped : List ℕ → Type 0
IsSkipped line =
    AreSpaces line ⊎ ((gap : List ℕ) × (rest : List ℕ) × AreSpaces gap × (line ≡ gap ++ 35 ∷ rest))
