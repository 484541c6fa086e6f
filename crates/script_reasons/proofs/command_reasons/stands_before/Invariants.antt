use Rattle.std.proofs.Common.{length}
use Rattle.script_reasons.proofs.command_reasons.stands_before.Given as goal

-- the words grow fewer
abbrev pub invariant-loop-other : goal.invariant-loop-other
invariant-loop-other l = Unit {0}

abbrev pub decreases-loop-other : goal.decreases-loop-other
decreases-loop-other l = length l.left.rest.now
