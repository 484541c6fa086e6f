use Rattle.std.proofs.Common.{◌≡◌, ◌++◌, drop}
use Rattle.pool_model.specs.Statements.{packets_from}
use Rattle.snapshot.proofs.placing.place_packets.Given as goal

-- the packets so far, with those of the slots to come, are those of the whole table
abbrev pub invariant-loop-slot : goal.invariant-loop-slot
invariant-loop-slot l =
    l.placed.items ++ packets_from l.share.worker l.slot (drop l.slot l.share.slots)
    ≡ l.fn.placed.items ++ packets_from l.share.worker 0 l.share.slots
