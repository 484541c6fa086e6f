use Rattle.std.proofs.Common.{replicate, take}
use Rattle.commons.specs.Packets.{held_in}
use Rattle.pool_model.specs.Guests.{local_table}
use Rattle.snapshot.specs.inside.Adding.{AreAdded, lists_of}
use Rattle.snapshot.proofs.placing.add_slots.Given as goal

-- the holder is noted for each hold of the slots so far
abbrev pub invariant-loop-slot : goal.invariant-loop-slot
invariant-loop-slot l =
    AreAdded (λ i. replicate (held_in (local_table l.foreign (take l.slot-index l.slots)) i) l.holder)
    (lists_of l.fn.table.items)
    (lists_of l.table.items)
