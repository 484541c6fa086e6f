use Rattle.std.proofs.Common.{ℕ, ◌<◌}
use Rattle.tasks.specs.Halves.{IsSeam}
use Rattle.tasks.proofs.halves.seam.Given as goal

-- no two texts are joined in front of here
abbrev pub invariant-loop-at : goal.invariant-loop-at
invariant-loop-at l = (k : ℕ) → k < l.at → ¬ (IsSeam l.bytes k)
