use Rattle.std.proofs.Common.{rules}
use Rattle.ground.proofs.Calls.{sits, allowed}
use Rattle.ground.proofs.Stepping.{loads_head}
use Rattle.ground.proofs.pool.Ground.load_head.Goals as goal

-- the load keeps the rule
pub load-requires : goal.load-requires
load-requires c = (search rules, search rules, allowed (loads_head _ _ _ _ (sits c.seat.invariant)))
