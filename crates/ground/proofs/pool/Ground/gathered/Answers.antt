use Rattle.std.proofs.Common.{rules}
use Rattle.ground.proofs.Joining.{looks}
use Rattle.ground.proofs.pool.Ground.gathered.Goals as goal

-- the seat has a part, and the load changes nothing
pub load-requires : goal.load-requires
load-requires c = (search rules, search rules, looks _ _ _ _ c.gathering.invariant.busy)
