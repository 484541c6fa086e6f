-- The elements of a snapshot's pool that stand nowhere in it.
use Rattle.std.specs.Prelude.{ℕ, ◌↔◌, ◌<◌, List, Contains}
use Rattle.std.specs.List.{AllPairs}
use Rattle.snapshot.specs.declared.fault.Fault.TheVariants.{Lost}
use Rattle.snapshot.specs.declared.snapshot.Snapshot.{Snapshot}
use Rattle.snapshot.specs.Faults.{IsFault}

-- each number is below those after it
abbrev pub IsAscending : List ℕ → Type 0
IsAscending xs = AllPairs (λ a b. a < b) xs

-- They are the lost elements, ascending: exactly those of the pool that are neither on the walk,
-- nor in a cache, nor in a packet, of a share or on a desk.
pub record AreLost (s : Snapshot) (elems : List ℕ) : Type 0 where
  pub ascending : IsAscending elems
  pub exactly : (e : ℕ) → Contains elems e ↔ IsFault s (Lost e)
