-- Elements that the pool doesn't have, gathered in a list. No public clause cites this module.
use Rattle.std.specs.Prelude.{ℕ, ◌≡◌, ◌↔◌, ◌<◌, ◌≤◌, ◌+◌, List, Contains}
use Rattle.commons.specs.Bag.{bag}
use Rattle.snapshot.specs.declared.snapshot.Snapshot.{Snapshot}
use Rattle.snapshot.specs.Lost.{IsAscending}
use Rattle.snapshot.specs.Snapshots.{times_named}

-- of what was met this often, the list has got what isn't below the limit, by the list before and
-- the list afterwards
pub record HasGathered (limit : ℕ) (times : ℕ → ℕ) (old new : List ℕ) : Type 0 where
  pub above : (e : ℕ) → limit ≤ e → bag new e ≡ bag old e + times e
  pub below : (e : ℕ) → e < limit → bag new e ≡ bag old e

-- the list has the same elements, each once, ascending
pub record IsSetOf (old new : List ℕ) : Type 0 where
  pub ascending : IsAscending new
  pub same : (e : ℕ) → Contains new e ↔ Contains old e

-- They are what the pool doesn't have, of what the stack, caches, packets and guests name: each
-- once, ascending.
pub record AreStrangers (stack : List ℕ) (s : Snapshot) (elems : List ℕ) : Type 0 where
  pub ascending : IsAscending elems
  pub exactly : (e : ℕ) →
      Contains elems e ↔ ((0 < bag stack e + times_named s e) × (s.limits.population ≤ e))
