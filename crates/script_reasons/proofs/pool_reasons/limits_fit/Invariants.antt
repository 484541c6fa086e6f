use Rattle.std.proofs.Common.{length}
use Rattle.script_reasons.proofs.pool_reasons.limits_fit.Given as goal

-- the words grow fewer
abbrev pub invariant-loop-pair : goal.invariant-loop-pair
invariant-loop-pair l = Unit {0}

abbrev pub decreases-loop-pair : goal.decreases-loop-pair
decreases-loop-pair l = length l.left.rest.now
