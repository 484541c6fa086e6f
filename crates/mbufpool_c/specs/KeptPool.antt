-- How a `PoolWorker` is kept. No public clause cites this module.
use Rattle.depot.specs.Lending.{IsWorker}
use Rattle.mbufpool_c.specs.Pools.{Pooled}
use Rattle.mbufpool_c.specs.declared.pool_workers.PoolWorker.TheInside.{Inside}

abbrev pub pooled_of : Inside → Pooled
pooled_of w = record { site = w.depot.value; worker = w.worker; left = w.left }

-- between calls the worker is one at this depot
abbrev pub IsKept : Inside → Type 0
IsKept w = IsWorker w.depot.value w.worker
