use Rattle.std.proofs.Common.{take}
use Rattle.snapshot.specs.inside.Adding.{AreByWorker, lists_of}
use Rattle.snapshot.proofs.placing.by_worker.Given as goal

-- the lists have the guests so far
abbrev pub invariant-loop-guest : goal.invariant-loop-guest
invariant-loop-guest l = AreByWorker l.workers (take l.guest-index l.guests) (lists_of l.lists.items)
