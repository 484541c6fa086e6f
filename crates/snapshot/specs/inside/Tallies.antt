-- Rows that count, for each element, how often it was met. No public clause cites this module.
use Rattle.std.specs.Prelude.{ℕ, ◌≡◌, ◌<◌, ◌+◌, min, List, length, slice_index}
use Rattle.snapshot.specs.declared.snapshot.Snapshot.{Snapshot}
use Rattle.snapshot.specs.declared.tally.tables.Tally.{Tally}
use Rattle.snapshot.specs.AllFaults.{times_free_on}
use Rattle.snapshot.specs.Snapshots.{times_held, times_own}

-- the number that stands for this many: it goes no higher than the greatest `u32`
abbrev pub capped : ℕ → ℕ
capped n = min n 4294967295

-- each element of the row was met this many times more, by the row before and the row afterwards
pub record HasMet (times : ℕ → ℕ) (old new : List ℕ) : Type 0 where
  pub len : length new ≡ length old
  pub counts : (i : ℕ) → i < length old → slice_index new i ≡ capped (slice_index old i + times i)

-- the row has a number for each of this many elements: how often it was met
pub record IsRow (size : ℕ) (times : ℕ → ℕ) (row : List ℕ) : Type 0 where
  pub len : length row ≡ size
  pub counts : (i : ℕ) → i < size → slice_index row i ≡ capped (times i)

-- the three rows are those of the snapshot, with these elements as its stack
pub record IsTally (stack : List ℕ) (s : Snapshot) (tally : Tally) : Type 0 where
  pub own : IsRow s.limits.population (times_own s) tally.own.items
  pub held : IsRow s.limits.population (times_held s) tally.held.items
  pub free : IsRow s.limits.population (times_free_on stack s) tally.free.items
