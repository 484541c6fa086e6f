use Rattle.std.proofs.Common.{take}
use Rattle.snapshot.specs.inside.Adding.{AreAdded, lists_of, workers_in}
use Rattle.snapshot.proofs.placing.add_shares.Given as goal

-- the workers so far are noted
abbrev pub invariant-loop-share : goal.invariant-loop-share
invariant-loop-share l =
    AreAdded (workers_in l.foreign (lists_of l.guests) (take l.share-index l.shares)) (lists_of l.fn.table.items)
    (lists_of l.table.items)
