use Rattle.std.proofs.Common.{arith}
use Rattle.ground.proofs.Opens.{step_link}
use Rattle.ground.proofs.rows.push_links.Goals as goal

pub loop-i-preserved : goal.loop-i-preserved
loop-i-preserved c = grind (arith, step_link)
