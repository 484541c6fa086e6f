-- What C is answered where it makes a pool of packets.
use Rattle.std.specs.Prelude.{◌≡◌, ◌<◌, ℕ, List, Some, length, map, slice_index_or}
use Rattle.commons.specs.Bounds.{IsPool}
use Rattle.commons.specs.declared.limits.Limits.{Limits}
use Rattle.commons.specs.declared.limits.PutRule.TheVariants.{Keep}
use Rattle.commons.specs.declared.refusal.Refusal.{Refusal}
use Rattle.commons.specs.declared.refusal.Refusal.TheVariants.{BadPool, OutOfMemory}
use Rattle.commons.specs.Refusals.{number_of}
use Rattle.ground.specs.Seats.{Grounded}
use Rattle.word_pool.specs.Workers.{WorkerState, AreNew, AreWorkers}
use Rattle.mbufpool_c.specs.Labelled.{Labelled, newly}
use Rattle.mbufpool_c.specs.declared.opening.PoolLimits.{PoolLimits}
use Rattle.mbufpool_c.specs.declared.worker_handle.WorkerHandle.{WorkerHandle}

-- the limits of a pool of packets
abbrev pub pool_limits : PoolLimits → Limits
pool_limits l = record {
  population = l.population;
  cache = l.cache;
  workers = l.workers;
  desks = l.desks;
  buf = l.buf;
  ref_limit = l.ref_limit;
  tries = l.tries;
  start_count = 0;
  put_rule = Keep;
}

-- They are the workers of one new pool of these limits, all over the same words, in the order of
-- their numbers from 1. They have nothing, and none has acted.
pub record IsNewCrew (l : Limits) (ms : List WorkerState) : Type 0 where
  pub ground : Grounded
  pub limits : ground.limits ≡ l
  pub workers : AreWorkers ground ms
  pub new : AreNew l ms
  pub as_many : length ms ≡ l.workers

-- each handle has the worker at its place
pub record HaveWorkers (ms : List Labelled) (handles : List WorkerHandle) : Type 0 where
  pub as_many : length handles ≡ length ms
  pub each : (k : ℕ) (h : WorkerHandle) (m : Labelled) → k < length ms →
      (slice_index_or handles k h).value ≡ Some (slice_index_or ms k m)

-- The handles have the workers of one new pool of these limits, one for each, in their order, and the
-- label of each slot is the slot.
pub record Opens (l : Limits) (handles : List WorkerHandle) : Type 0 where
  pub workers : List WorkerState
  pub crew : IsNewCrew l workers
  pub have : HaveWorkers (map newly workers) handles

-- why a pool isn't opened for n handles: there is no such pool, or n isn't the number of its
-- workers; or memory was refused
abbrev pub IsOpenCause : Limits → ℕ → Refusal → Type 0
IsOpenCause l n BadPool = ¬ (IsPool l × (n ≡ l.workers))
IsOpenCause l n OutOfMemory = IsPool l × (n ≡ l.workers)
IsOpenCause l n _ = ⊥

-- and C has its number
abbrev pub RefusesOpen : Limits → ℕ → ℕ → Type 0
RefusesOpen l n status = (cause : Refusal) × (status ≡ number_of cause) × IsOpenCause l n cause
