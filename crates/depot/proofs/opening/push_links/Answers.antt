use Rattle.std.proofs.Common.{rules}
use Rattle.depot.proofs.Opens.{pushed-range}
use Rattle.depot.proofs.opening.push_links.Goals as goal

-- one more number stands at the end
pub loop-i-preserved : goal.loop-i-preserved
loop-i-preserved c = pushed-range _ _ _ _ c.loop-i.invariant (search rules)
