use Rattle.std.proofs.Common.{◌≡◌, replicate}
use Rattle.step_core.proofs.opening.ones.Given as goal

abbrev pub invariant-loop : goal.invariant-loop
invariant-loop l = l.counts.items ≡ replicate l.counter 1
