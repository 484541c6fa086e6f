-- How a `SitePool` is kept. No public clause cites this module.
use Rattle.std.specs.Prelude.{ℕ, ◌≡◌, ◌+◌, ◌<◌, List, length, slice_index_or}
use Rattle.commons.specs.Lists.{Lists, IsTable}
use Rattle.mbuf.specs.declared.acts.Act.{Act}
use Rattle.mbuf.specs.Members.{Member}
use Rattle.pool_model.specs.PacketModel.{after_acts}
use Rattle.pool_model.specs.Pool.{Pool, new_pool, nobody}
use Rattle.share_book.specs.inside.Own.{OwnOnLists}
pub use Rattle.share_book.specs.AsModel.{pool_with}
use Rattle.share_book.specs.declared.site_pool.SitePool.TheInside.{Inside}

-- a `SitePool` as a pool
abbrev pub pool_of : Inside → Pool
pool_of p = pool_with p.site p.members.items

-- some acts, one after another, make this pool of a new one
abbrev pub IsReached : Pool → Type 0
IsReached pool = (acts : List (ℕ × Act)) × (pool ≡ after_acts acts (new_pool pool.limits))

-- the worker at n has the number n + 1 and owns its part of the lists
pub record IsMember (s : Lists) (n : ℕ) (m : Member) : Type 0 where
  pub number : m.number ≡ n + 1
  pub own : OwnOnLists s (n + 1) m

-- The lists show a table, each worker owns its part of them, and the whole pool is one that acts
-- reach.
pub record IsSitePool (p : Inside) : Type 0 where
  pub table : IsTable p.site
  pub workers : length p.members.items ≡ p.site.limits.workers
  pub each : (n : ℕ) → n < p.site.limits.workers → IsMember p.site n (slice_index_or p.members.items n (nobody p.site.limits))
  pub reached : IsReached (pool_of p)
