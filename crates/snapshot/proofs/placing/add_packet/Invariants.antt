use Rattle.std.proofs.Common.{replicate, take}
use Rattle.commons.specs.Bag.{bag}
use Rattle.commons.specs.Packets.{holds_of_packet}
use Rattle.pool_model.specs.Guests.{local_packet}
use Rattle.snapshot.specs.inside.Adding.{AreAdded, lists_of}
use Rattle.snapshot.proofs.placing.add_packet.Given as goal

-- the holder is noted for each hold of the segments so far
abbrev pub invariant-loop-seg : goal.invariant-loop-seg
invariant-loop-seg l = AreAdded (λ i. replicate (bag (holds_of_packet (local_packet l.foreign (take l.seg-index l.segs))) i) l.holder)
    (lists_of l.fn.table.items) (lists_of l.table.items)
