use Rattle.std.proofs.Common.{length}
use Rattle.script_reasons.proofs.shape.all_fit.Given as goal

-- the words grow fewer
abbrev pub invariant-loop-word : goal.invariant-loop-word
invariant-loop-word l = Unit {0}

abbrev pub decreases-loop-word : goal.decreases-loop-word
decreases-loop-word l = length l.left.rest.now
