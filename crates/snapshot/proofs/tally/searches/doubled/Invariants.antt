use Rattle.std.proofs.Common.{ℕ, ◌+◌, ◌<◌, ◌≤◌, get_or}
use Rattle.std.specs.Prelude.{min}
use Rattle.snapshot.proofs.tally.searches.doubled.Given as goal

-- no element so far is free twice, or free and held
abbrev pub invariant-loop-elem : goal.invariant-loop-elem
invariant-loop-elem l = (i : ℕ) → i < l.elem → get_or l.free i 0 + min 1 (get_or l.held i 0) ≤ 1
