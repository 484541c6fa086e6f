use Rattle.std.proofs.Common.{refl}
use Rattle.mbufpool_c.proofs.OpenLemmas.{crew_of}
use Rattle.mbufpool_c.proofs.opening.opened.Goals as goal

-- they are the workers of the pool that was made
pub returns-in-Ok-clause-crew : goal.returns-in-Ok-clause-crew
returns-in-Ok-clause-crew c =
    let workers = c.in_ok-ground.workers.items in (
      workers,
      crew_of c.args.limits.now c.in_ok-ground.ground workers workers c.in_ok-ground.ensures.limits
          c.in_ok-ground.ensures.workers c.in_ok-ground.ensures.new refl,
      c.in-Ok.ensures,
    )
