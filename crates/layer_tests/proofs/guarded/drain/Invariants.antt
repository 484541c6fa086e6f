use Rattle.std.proofs.Common.{◌≡◌, length}
use Rattle.guard.specs.Guards.{IsGuard}
use Rattle.layer_tests.proofs.guarded.drain.Given as goal

abbrev pub invariant-loop : goal.invariant-loop
invariant-loop l = IsGuard l.fn.depot l.worker × (length l.seen ≡ length l.fn.seen)
