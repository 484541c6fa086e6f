use Rattle.std.proofs.Common.{rules}
use Rattle.ground.proofs.Calls.{sits, allowed}
use Rattle.ground.proofs.Stepping.{loads_length}
use Rattle.ground.proofs.pool.Ground.load_length.Goals as goal

-- the load keeps the rule
pub load-requires : goal.load-requires
load-requires c =
    (search rules, search rules, allowed (loads_length _ _ _ _ (sits c.seat.invariant)))
