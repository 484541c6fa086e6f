use Rattle.std.proofs.Common.{take}
use Rattle.commons.specs.Packets.{held_in}
use Rattle.pool_model.specs.Guests.{local_table}
use Rattle.snapshot.specs.inside.Marks.{HasMarked}
use Rattle.snapshot.proofs.lost.mark_table.Given as goal

-- what the packets in the places so far hold is marked
abbrev pub invariant-loop-place : goal.invariant-loop-place
invariant-loop-place l =
    HasMarked (held_in (local_table l.foreign (take l.place-index l.table))) l.fn.met.items l.met.items
