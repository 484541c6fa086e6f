use Rattle.std.proofs.Common.{◌≡◌, ◌≤◌, take, drop}
use Rattle.std.specs.Slots.{slots_items}
use Rattle.std.specs.Vec.{vec_len, vec_capacity}
use Rattle.ground.proofs.rows.read_row.Given as goal

-- the words so far are those of the row, and there is room for the others
abbrev pub invariant-loop-i : goal.invariant-loop-i
invariant-loop-i l =
    (l.out.items ≡ take l.i (drop l.fn.from (slots_items l.left.words)))
    × (vec_len l.out ≡ l.i) × (l.fn.count ≤ vec_capacity l.out)
