-- A head as one word: the magazine on top + 1, or 0, in the lower 16 bits, and above it how often the
-- stack has been changed.
use Rattle.std.specs.Prelude.{ℕ, ◌+◌, ◌*◌, ◌/◌, ◌%◌}

abbrev pub top_of : ℕ → ℕ
top_of head = head % 65536

abbrev pub count_of : ℕ → ℕ
count_of head = head / 65536

-- the head after one more change, with this top
abbrev pub next_head : ℕ → ℕ → ℕ
next_head head top = (count_of head + 1) * 65536 + top

-- the count of a head that can't be changed any more
abbrev pub spent : ℕ
spent = 281474976710655
