use Rattle.std.proofs.Common.{take}
use Rattle.commons.specs.Packets.{held_in, own_in}
use Rattle.pool_model.specs.Guests.{local_table}
use Rattle.snapshot.specs.inside.Tallies.{HasMet}
use Rattle.snapshot.proofs.tally.tables.count_table.Given as goal

-- the packets in the places so far were met
abbrev pub invariant-loop-place : goal.invariant-loop-place
invariant-loop-place l = record {
  own : HasMet (own_in (take l.place-index l.table)) l.fn.own.items l.own.items;
  held : HasMet (held_in (local_table l.foreign (take l.place-index l.table))) l.fn.held.items l.held.items;
}
