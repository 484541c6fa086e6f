use Rattle.std.proofs.Common.{take}
use Rattle.commons.specs.Bag.{bag}
use Rattle.commons.specs.Packets.{holds_of_packet}
use Rattle.pool_model.specs.Guests.{local_packet}
use Rattle.snapshot.specs.inside.Gathered.{HasGathered}
use Rattle.snapshot.proofs.elements.in_packet.Given as goal

-- of the segments so far
abbrev pub invariant-loop-seg : goal.invariant-loop-seg
invariant-loop-seg l =
    HasGathered l.population (bag (holds_of_packet (local_packet l.foreign (take l.seg-index l.segs))))
    l.fn.named.items l.named.items
