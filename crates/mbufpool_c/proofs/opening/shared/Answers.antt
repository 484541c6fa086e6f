use Rattle.std.proofs.Common.{arith}
use Rattle.mbufpool_c.proofs.OpenLemmas.{count_of_crew, numbers_of_crew}
use Rattle.mbufpool_c.proofs.opening.shared.Goals as goal

-- all workers are numbered from 1
pub boxed-requires-clause-numbers : goal.boxed-requires-clause-numbers
boxed-requires-clause-numbers c = numbers_of_crew c.args.ground c.args.workers.items c.requires

-- and are as many as a pool may have
pub boxed-requires-clause-few : goal.boxed-requires-clause-few
boxed-requires-clause-few c =
    omega (arith, count_of_crew c.args.ground c.args.workers.items c.requires, c.limits.ensures.pool.workers)
