use Rattle.std.proofs.Common.{◌≡◌, take}
use Rattle.snapshot.specs.inside.Checked.{HasPackets}
use Rattle.book.proofs.copies.slots.Given as goal

-- the slots so far, and packets alone in them
abbrev pub invariant-loop-number : goal.invariant-loop-number
invariant-loop-number l = (l.slots.items ≡ take l.number l.packets.table) × HasPackets l.slots.items
