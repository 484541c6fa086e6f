-- What a contract sees of a `Worker`.
use Rattle.std.specs.Prelude.{ℕ, List, ◌≡◌, ◌≤◌}
use Rattle.commons.specs.Bounds.{IsPool}
use Rattle.commons.specs.declared.limits.Limits.{Limits}
use Rattle.commons.specs.declared.refusal.Refusal.{Refusal}
use Rattle.commons.specs.declared.refusal.Refusal.TheVariants.{BadPool, OutOfMemory}

-- the limits of the worker's pool, the worker's number, and its cache, from its first element to
-- its last
pub record WorkerCache : Type 0 where
  pub limits : Limits
  pub number : ℕ
  pub cache : List ℕ

-- why a worker isn't made
abbrev pub IsWorkerCause : Limits → ℕ → Refusal → Type 0
IsWorkerCause l number BadPool = IsPool l → 1 ≤ number → number ≤ l.workers → ⊥
IsWorkerCause l number OutOfMemory = IsPool l × (1 ≤ number) × (number ≤ l.workers)
IsWorkerCause l number _ = ⊥

-- the worker is the same one, of the same pool
pub record KeepsNumber (old new : WorkerCache) : Type 0 where
  pub limits : new.limits ≡ old.limits
  pub number : new.number ≡ old.number
