use Rattle.std.proofs.Common.{take}
use Rattle.snapshot.specs.inside.Checked.{HasPackets}
use Rattle.share_book.proofs.looks.look_at_slots.Given as goal

-- each slot so far was looked at
abbrev pub invariant-loop-number : goal.invariant-loop-number
invariant-loop-number l = HasPackets (take l.number l.packets.table)
