-- What the steps of a worker's calls do, which several functions share. No public clause cites this
-- module.
use Rattle.std.specs.Prelude.{ℕ, ◌≡◌, ◌+◌, ◌≤◌, ◌++◌, List, length, OnErr, IfOk, Result, Vec, vec_len, vec_capacity}
use Rattle.std.specs.declared.alloc.Global.{Global}
use Rattle.commons.specs.Bag.{bag}
use Rattle.commons.specs.Calls.{Reading, Call, Calls, Side}
use Rattle.commons.specs.declared.refusal.Refusal.{Refusal}
use Rattle.mempool.specs.Caches.{Gets, last, without_last}
use Rattle.mempool.specs.WorkerCache.{KeepsNumber, WorkerCache}

-- n elements were got, or none: by the calls of a get's rule, given its answer as a list and what
-- was gained by it. What came into the hand is what was gained and what the cache has more. After a
-- refusal cache and side are as before, and what is held always is.
pub record Got {A : Type 0} {S : Type 0} (did : S → Call → List Reading → S → Type 0) (side : S → Side)
    (n : ℕ) (as_list : Result A Refusal → Result (List ℕ) Refusal) (gained : A → ℕ → ℕ)
    (old : WorkerCache) (before : S) (answer : Result A Refusal) (new : WorkerCache) (after : S)
    : Type 0 where
  pub calls : Calls did side before after (λ calls.
      Gets old.limits old.cache n calls (as_list answer) new.cache)
  pub hand : IfOk answer (λ a. (i : ℕ) →
      (side after).hand i + bag old.cache i ≡ (side before).hand i + bag new.cache i + gained a i)
  pub refused : OnErr answer (side after ≡ side before)
  pub cache_err : OnErr answer (new.cache ≡ old.cache)
  pub holds : (side after).holds ≡ (side before).holds
  pub headers : (side after).headers ≡ (side before).headers
  pub limits : (side after).limits ≡ (side before).limits
  pub number : KeepsNumber old new

-- the last n of a cache were moved out of it, last first
pub record TakesLast (n : ℕ) (old : Vec ℕ Global) (taken : List ℕ) (new : Vec ℕ Global) : Type 0 where
  pub out : taken ≡ last n old.items
  pub cache : new.items ≡ without_last n old.items
  pub capacity : vec_capacity new ≡ vec_capacity old

-- a list was appended to a cache that had room for it
pub record Appends (list : List ℕ) (old new : Vec ℕ Global) : Type 0 where
  pub items : new.items ≡ old.items ++ list
  pub len : vec_len new ≡ vec_len old + length list
  pub capacity : vec_capacity old ≤ vec_capacity new
  pub bag : (i : ℕ) → bag new.items i ≡ bag old.items i + bag list i

-- What all of these lost left the hand, and the rest of the worker's side is as before. The cache,
-- which had this much room, keeps what is left.
pub record MovesOut (before : Side) (all : List ℕ) (room : ℕ) (after : Side) (left : Vec ℕ Global)
    : Type 0 where
  pub hand : (i : ℕ) → after.hand i + bag all i ≡ before.hand i + bag left.items i
  pub holds : after.holds ≡ before.holds
  pub headers : after.headers ≡ before.headers
  pub limits : after.limits ≡ before.limits
  pub capacity : room ≤ vec_capacity left
