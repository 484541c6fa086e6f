-- What the workers of a pool share, in which they are left where it is closed.
use Rattle.std.specs.Prelude.{ℕ, ◌≡◌, ◌≤◌, ◌+◌, ◌-◌, ◌<◌, ◌⊎◌, ◌++◌, List, [], ◌∷◌, Some, All, Contains, length, map}
use Rattle.std.specs.List.{range_with_len}
use Rattle.ground.specs.Seats.{Grounded}
use Rattle.snapshot.specs.Lost.{IsAscending}
use Rattle.word_pool.specs.Workers.{WorkerState, IsAt}
use Rattle.mbufpool_c.specs.declared.shared.Returned.{Returned}

-- a worker of this ground is left there, with its number
pub record IsReturned (g : Grounded) (s : Returned) : Type 0 where
  pub worker : WorkerState
  pub there : s.left.value ≡ Some worker
  pub of : IsAt g worker
  pub number : s.number ≡ worker.member.number

-- their numbers
abbrev pub numbers_of : List WorkerState → List ℕ
numbers_of ms = map (λ m. m.member.number) ms

-- Of the workers of this ground with numbers above k, these are there, in the order of their
-- numbers, and each of the others is missing.
pub record AreAbove (g : Grounded) (k : ℕ) (ms : List WorkerState) (missing : List ℕ) : Type 0 where
  pub each : All (IsAt g) ms
  pub above : All (λ w. k < w) (numbers_of ms)
  pub below : All (λ w. w ≤ g.limits.workers) (numbers_of ms)
  pub ascending : IsAscending (numbers_of ms)
  pub all : (w : ℕ) → k < w → w ≤ g.limits.workers → Contains (numbers_of ms) w ⊎ Contains missing w
  pub full : missing ≡ [] → numbers_of ms ≡ range_with_len (k + 1) (g.limits.workers - k)
  pub as_many : length ms + length missing ≡ g.limits.workers - k

-- the worker of this number was added, or its number to those of the missing
abbrev pub IsGathered : Grounded → ℕ → List WorkerState → List WorkerState → List ℕ → List ℕ → Type 0
IsGathered g n ms new missing gone =
    ((m : WorkerState) × IsAt g m × (m.member.number ≡ n) × (new ≡ ms ++ m ∷ []) × (gone ≡ missing))
    ⊎ ((new ≡ ms) × (gone ≡ missing ++ n ∷ []))
