use Rattle.std.proofs.Common.{length}
use Rattle.script_reasons.proofs.command_reasons.made_again.Given as goal

-- the words grow fewer
abbrev pub invariant-loop-name : goal.invariant-loop-name
invariant-loop-name l = Unit {0}

abbrev pub decreases-loop-name : goal.decreases-loop-name
decreases-loop-name l = length l.left.rest.now
