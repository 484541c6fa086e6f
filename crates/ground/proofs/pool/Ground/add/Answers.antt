use Rattle.std.proofs.Common.{rules}
use Rattle.ground.proofs.Calls.{sits, allowed}
use Rattle.ground.proofs.Stepping.{adds}
use Rattle.ground.proofs.pool.Ground.add.Goals as goal

-- the addition keeps the rule
pub fetch_add-requires : goal.fetch_add-requires
fetch_add-requires c = (
  search rules,
  search rules,
  allowed (adds _ _ _ _ _ (search rules) (search rules) (sits c.seat.invariant)),
)
