-- Handles that lend their worker: once the borrow ends, each has the worker as that was left.
use Rattle.std.specs.Prelude.{Some}
use Rattle.std.specs.Borrow.{Lends, MutBor, Fml}
use Rattle.mbufpool_c.specs.declared.guard_handle.GuardHandle.{GuardHandle}
use Rattle.mbufpool_c.specs.declared.pool_handle.PoolHandle.{PoolHandle}
use Rattle.mbufpool_c.specs.contracts.guard_handle.GuardHandle.{the_row as guard_handle}
use Rattle.mbufpool_c.specs.contracts.guard_workers.OwnGuard.{the_row as guard}
use Rattle.mbufpool_c.specs.contracts.pool_handle.PoolHandle.{the_row as handle}
use Rattle.mbufpool_c.specs.contracts.pool_workers.PoolWorker.{the_row as worker}
use Rattle.mbufpool_c.specs.Guarded.{Guarded}
use Rattle.mbufpool_c.specs.Pools.{Pooled}

-- the handle with another worker behind its pointer
abbrev pub with_worker : PoolHandle → Pooled → PoolHandle
with_worker h w = record h { value = Some w }

abbrev pub LendsWorker : MutBor PoolHandle → MutBor Pooled → Fml
LendsWorker s r = Lends handle worker s r (with_worker s.now)

-- the same of a guarded pool's
abbrev pub with_guard : GuardHandle → Guarded → GuardHandle
with_guard h w = record h { value = Some w }

abbrev pub LendsGuard : MutBor GuardHandle → MutBor Guarded → Fml
LendsGuard s r = Lends guard_handle guard s r (with_guard s.now)
