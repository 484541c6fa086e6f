-- Words as flags, one for each slot. No public clause cites this module.
use Rattle.std.specs.Prelude.{ℕ, ◌≡◌, ◌<◌, ◌/◌, ◌%◌, ◌==◌, Bool, List, map, slice_index}
use Rattle.std.specs.List.{range_with_len}
use Rattle.std.specs.Int.{bit_at}
use Rattle.mbuf.specs.Members.{slots}

-- whether the bit of a slot is 1
abbrev pub is_set : List ℕ → ℕ → Bool
is_set words slot = bit_at (slice_index words (slot / 64)) (slot % 64) == 1

-- the bits of all slots
abbrev pub flags_of : List ℕ → List Bool
flags_of words = map (is_set words) (range_with_len 0 slots)

-- the bit is 1, and none below it is
pub record IsLowestBit (word bit : ℕ) : Type 0 where
  pub within : bit < 64
  pub up : bit_at word bit ≡ 1
  pub down : (i : ℕ) → i < bit → bit_at word i ≡ 0
