use Rattle.std.proofs.Common.{◌+◌, ◌≤◌, length}
use Rattle.guard.specs.Guards.{IsGuard, Still, Since, resting_of}
use Rattle.guard.proofs.worker.GuardWorker.flush.Given as goal

-- so many were given
abbrev pub invariant-loop : goal.invariant-loop
invariant-loop l =
    IsGuard l.fn.depot l.self × Still (resting_of l.fn.self) (resting_of l.self) × Since l.fn.self l.self
    × (length l.self.kept.items + l.counter ≤ length l.fn.self.kept.items)
