use Rattle.std.proofs.Common.{take}
use Rattle.commons.specs.Packets.{held_in}
use Rattle.pool_model.specs.Guests.{local_table}
use Rattle.snapshot.specs.inside.Gathered.{HasGathered}
use Rattle.snapshot.proofs.elements.in_table.Given as goal

-- of the packets in the places so far
abbrev pub invariant-loop-place : goal.invariant-loop-place
invariant-loop-place l =
    HasGathered l.population (held_in (local_table l.foreign (take l.place-index l.table))) l.fn.named.items l.named.items
