use Rattle.std.proofs.Common.{rules}
use Rattle.depot.proofs.Opens.{pushed-zero}
use Rattle.depot.proofs.opening.push_zeros.Goals as goal

-- one more 0 stands at the end
pub loop-preserved : goal.loop-preserved
loop-preserved c = pushed-zero _ _ _ _ c.loop.invariant (search rules)
