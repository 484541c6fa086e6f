-- The script's second pool is one beside the first.
use Rattle.commons.specs.declared.limits.Limits.{Limits}
use Rattle.book.specs.TwinBooks.{AreTwinPools}
use Rattle.script_text.specs.PoolLine.{ArePools}
use Rattle.script_text.specs.declared.lines.Pools.{Pools}
use Rattle.std.proofs.Common.{◌≡◌, Some}
use Rattle.script.proofs.threaded.run_to_end.Goals as goal

-- they can be made together
made_together : (pools : Pools) (second : Limits) → ArePools pools → pools.second ≡ Some second →
    AreTwinPools pools.first second
made_together pools second made is =
    let beside = made.second second is in
    record {
      twins = record { first = made.first; second = beside.pool; workers = beside.beside.workers };
      no_desks = beside.beside.desks;
    }

pub run-requires-in-Words-grounds-clause-pools : goal.run-requires-in-Words-grounds-clause-pools
run-requires-in-Words-grounds-clause-pools g c κs within =
    made_together c.args.script.now.pools c.in-Some.second c.args.script.now.made c.in-Some.is

pub run-requires-in-Locked-grounds-clause-pools : goal.run-requires-in-Locked-grounds-clause-pools
run-requires-in-Locked-grounds-clause-pools g c κs within =
    made_together c.args.script.now.pools c.in-Some.second c.args.script.now.made c.in-Some.is
