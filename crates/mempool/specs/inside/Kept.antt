-- How a `Worker` keeps its cache. No public clause cites this module.
use Rattle.std.specs.Prelude.{ℕ, ◌≡◌, ◌+◌, ◌<◌, ◌≤◌, ◌*◌, ◌/◌, ◌⊎◌, vec_capacity}
use Rattle.commons.specs.Bounds.{IsPool}
use Rattle.commons.specs.declared.limits.PutRule.{PutRule}
use Rattle.commons.specs.declared.limits.PutRule.TheVariants.{Keep, Whole}
use Rattle.mempool.specs.WorkerCache.{WorkerCache}
use Rattle.mempool.specs.declared.worker.Worker.TheInside.{Inside}

abbrev pub cache_of : Inside → WorkerCache
cache_of w = record { limits = w.limits; number = w.number; cache = w.cache.items }

-- By this rule a cache of this size is flushed from this length on. Where a cache keeps its size,
-- what is shorter is below the threshold or no longer than the size; where it goes whole, it is no
-- longer than the threshold.
pub record IsFlushLength (rule : PutRule) (size least : ℕ) : Type 0 where
  pub below : rule ≡ Keep → (n : ℕ) → n < least → (n < size * 3 / 2) ⊎ (n ≤ size)
  pub threshold : rule ≡ Keep → size * 3 / 2 ≤ least
  pub more : rule ≡ Keep → size < least
  pub whole : rule ≡ Whole → least ≡ size * 3 / 2 + 1

-- the limits are a pool's, the number is of one of its workers, the cache has room for all its
-- elements, and the length from which it is flushed is kept beside it
pub record IsKept (w : Inside) : Type 0 where
  pub pool : IsPool w.limits
  pub first : 1 ≤ w.number
  pub last : w.number ≤ w.limits.workers
  pub room : w.limits.population ≤ vec_capacity w.cache
  pub flush : IsFlushLength w.limits.put_rule w.limits.cache w.flush_length
