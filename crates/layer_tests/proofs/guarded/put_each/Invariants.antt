use Rattle.guard.specs.Guards.{IsGuard}
use Rattle.layer_tests.proofs.guarded.put_each.Given as goal

abbrev pub invariant-loop-element : goal.invariant-loop-element
invariant-loop-element l = IsGuard l.fn.depot l.worker
