-- A walk that has no end in the pool. No public clause cites this module.
use Rattle.std.specs.Prelude.{◌≡◌, ◌≤◌}
use Rattle.snapshot.specs.declared.fault.Fault.{Fault}
use Rattle.snapshot.specs.declared.snapshot.Snapshot.{Snapshot}
use Rattle.snapshot.specs.AllFaults.{WalkEnds}
use Rattle.snapshot.specs.Faults.{IsFault, rank}

-- the walk has no end, and this fault says why: it is the only one of the two kinds that do
pub record IsBreak (s : Snapshot) (f : Fault) : Type 0 where
  pub is : IsFault s f
  pub low : 1 ≤ rank f
  pub high : rank f ≤ 2
  pub alone : (g : Fault) → IsFault s g → 1 ≤ rank g → rank g ≤ 2 → g ≡ f
  pub endless : ¬ (WalkEnds s)
