use Rattle.std.proofs.Common.{◌≡◌, take, length}
use Rattle.guard.specs.Guards.{IsGuard, Gets, Since, resting_of}
use Rattle.guard.proofs.worker.GuardWorker.get.Given as goal

-- so many came out
abbrev pub invariant-loop-k : goal.invariant-loop-k
invariant-loop-k l =
    IsGuard l.fn.depot l.self × Gets (take l.k l.out) (resting_of l.fn.self) (resting_of l.self)
    × Since l.fn.self l.self × (length l.out ≡ length l.fn.out)
