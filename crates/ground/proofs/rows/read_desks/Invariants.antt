use Rattle.std.proofs.Common.{◌≡◌, ℕ, ◌<◌, ◌≤◌, false, true, length, drop}
use Rattle.std.specs.Prelude.{slice_index_or}
use Rattle.std.specs.Slots.{slots_items, slots_len, slots_filled}
use Rattle.std.specs.Vec.{vec_len, vec_capacity}
use Rattle.ground.specs.Closing.{AreOnFullDesks}
use Rattle.ground.proofs.rows.read_desks.Given as goal

-- the slots before are empty, and the others are full; the packets of full desks before are listed
abbrev pub invariant-loop-i : goal.invariant-loop-i
invariant-loop-i l =
    (l.left.words ≡ l.initial.left.words)
    × (slots_items l.left.slots ≡ slots_items l.initial.left.slots)
    × (slots_len l.left.slots ≡ slots_len l.initial.left.slots)
    × ((k : ℕ) → k < l.i → slice_index_or (slots_filled l.left.slots) k false ≡ false)
    × ((k : ℕ) → l.i ≤ k → k < slots_len l.left.slots →
    slice_index_or (slots_filled l.left.slots) k false ≡ true)
    × (length l.out.items ≡ l.i) × (vec_len l.out ≡ l.i)
    × (slots_len l.initial.left.slots ≤ vec_capacity l.out)
    × AreOnFullDesks (drop l.fn.from (slots_items l.initial.left.words)) (slots_items l.initial.left.slots) l.out.items
