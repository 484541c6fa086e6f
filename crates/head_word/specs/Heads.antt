-- The word that a head is: the modification count above the low bits, which are the top's. The
-- width stands once, as `low_bits`: every other number of a head follows from it.
use Rattle.std.specs.Prelude.{ℕ, ◌≡◌, ◌+◌, ◌-◌, ◌*◌, ◌/◌, ◌%◌, ◌^◌, ◌<◌, ◌≤◌, Option, Some, None}

-- how many low bits a word has for the top
abbrev pub low_bits : ℕ
low_bits = 24

-- how many values they have
abbrev pub low_values : ℕ
low_values = 2 ^ low_bits

-- the low bits that no head has
abbrev pub no_low : ℕ
no_low = low_values - 1

-- the most elements of a pool; each can be a top
abbrev pub max_elements : ℕ
max_elements = low_values - 2

-- the modification count at which the head is spent, the greatest that the bits above the low ones
-- hold
abbrev pub spent : ℕ
spent = 2 ^ 64 / low_values - 1

-- the low bits of a word, and the count above them
abbrev pub low_in : ℕ → ℕ
low_in word = word % low_values

abbrev pub count_in : ℕ → ℕ
count_in word = word / low_values

-- the word of these low bits and this count
abbrev pub word_with : ℕ → ℕ → ℕ
word_with low count = count * low_values + low

-- the low bits of a top: 0 for none, else the element + 1
abbrev pub low_of : Option ℕ → ℕ
low_of None = 0
low_of (Some element) = element + 1

-- a word is the head of this top and this count
pub record IsHead (top : Option ℕ) (count word : ℕ) : Type 0 where
  pub is : word ≡ word_with (low_of top) count
  pub low_in_range : low_of top < no_low
  pub count_in_range : count ≤ spent

-- a head has one word
abbrev pub OneWord : Type 0
OneWord =
    (top : Option ℕ) (count word other : ℕ) → IsHead top count word → IsHead top count other →
    word ≡ other

-- a word is of one head
abbrev pub OneHead : Type 0
OneHead =
    (top other : Option ℕ) (count number word : ℕ) → IsHead top count word →
    IsHead other number word → (top ≡ other) × (count ≡ number)
