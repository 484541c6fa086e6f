use Rattle.std.proofs.Common.{take}
use Rattle.commons.specs.Bag.{bag}
use Rattle.commons.specs.Packets.{holds_of_packet, own_of_packet}
use Rattle.pool_model.specs.Guests.{local_packet}
use Rattle.snapshot.specs.inside.Tallies.{HasMet}
use Rattle.snapshot.proofs.tally.rows.count_packet.Given as goal

-- the segments so far were met
abbrev pub invariant-loop-seg : goal.invariant-loop-seg
invariant-loop-seg l = record {
  own : HasMet (bag (own_of_packet (take l.seg-index l.segs))) l.fn.own.items l.own.items;
  held : HasMet (bag (holds_of_packet (local_packet l.foreign (take l.seg-index l.segs)))) l.fn.held.items l.held.items;
}
