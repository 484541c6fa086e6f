use Rattle.std.proofs.Common.{take}
use Rattle.guard.specs.Guards.{IsGuard, PutsBack, PutsSome, Since, resting_of}
use Rattle.guard.proofs.worker.GuardWorker.put_back.Given as goal

-- so many were put, or refused
abbrev pub invariant-loop-k : goal.invariant-loop-k
invariant-loop-k l =
    IsGuard l.fn.depot l.self × PutsSome (take l.k l.fn.list) (resting_of l.fn.self) (resting_of l.self)
    × Since l.fn.self l.self × PutsBack l.fn.depot (take l.k l.fn.list) l.fn.self l.self
