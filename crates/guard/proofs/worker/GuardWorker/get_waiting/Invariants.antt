use Rattle.guard.specs.Guards.{IsGuard, Still, Since, resting_of}
use Rattle.guard.proofs.worker.GuardWorker.get_waiting.Given as goal

-- so many of the list were stale
abbrev pub invariant-loop : goal.invariant-loop
invariant-loop l = IsGuard l.fn.depot l.self × Still (resting_of l.fn.self) (resting_of l.self) × Since l.fn.self l.self
