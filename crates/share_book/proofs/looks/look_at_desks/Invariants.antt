use Rattle.std.proofs.Common.{take}
use Rattle.snapshot.specs.inside.Checked.{HasPackets}
use Rattle.share_book.proofs.looks.look_at_desks.Given as goal

-- each desk so far was looked at
abbrev pub invariant-loop-desk : goal.invariant-loop-desk
invariant-loop-desk l = HasPackets (take l.desk-index l.desks)
