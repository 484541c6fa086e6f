use Rattle.std.proofs.Common.{take}
use Rattle.commons.specs.Bag.{bag}
use Rattle.commons.specs.Packets.{holds_of_packet}
use Rattle.pool_model.specs.Guests.{local_packet}
use Rattle.snapshot.specs.inside.Marks.{HasMarked}
use Rattle.snapshot.proofs.lost.marks.mark_packet.Given as goal

-- what the segments so far hold is marked
abbrev pub invariant-loop-seg : goal.invariant-loop-seg
invariant-loop-seg l =
    HasMarked (bag (holds_of_packet (local_packet l.foreign (take l.seg-index l.segs)))) l.fn.met.items l.met.items
