-- A text of two snapshots.
use Rattle.std.specs.Prelude.{ℕ, ◌≡◌, ◌⊎◌, ◌<◌, ◌≤◌, ◌+◌, List, drop, length, slice_index, take}
use Rattle.snapshot_json.specs.Reading.{max_bytes}

-- Two texts are joined here: the bytes are `}`, a line feed and `{`. In a text of JSON no `{` follows
-- upon a `}`, and no string has a line feed in it.
pub record IsSeam (bytes : List ℕ) (at : ℕ) : Type 0 where
  pub within : at + 2 < length bytes
  pub ends : slice_index bytes at ≡ 125
  pub line : slice_index bytes (at + 1) ≡ 10
  pub begins : slice_index bytes (at + 2) ≡ 123

-- the first such place
pub record IsFirstSeam (bytes : List ℕ) (at : ℕ) : Type 0 where
  pub seam : IsSeam bytes at
  pub first : (k : ℕ) → k < at → ¬ (IsSeam bytes k)

-- there is none
abbrev pub IsSeamless : List ℕ → Type 0
IsSeamless bytes = (at : ℕ) → ¬ (IsSeam bytes at)

-- the bytes are one text, or more than a text may have
abbrev pub IsOneText : List ℕ → Type 0
IsOneText bytes = (max_bytes < length bytes) ⊎ IsSeamless bytes

-- they are two, with the line feed between them
pub record AreTwoTexts (bytes first second : List ℕ) : Type 0 where
  pub size : length bytes ≤ max_bytes
  pub at : ℕ
  pub seam : IsFirstSeam bytes at
  pub front : first ≡ take (at + 1) bytes
  pub back : second ≡ drop (at + 2) bytes
