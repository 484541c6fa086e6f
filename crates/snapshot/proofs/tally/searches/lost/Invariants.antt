use Rattle.std.proofs.Common.{ℕ, ◌+◌, ◌<◌, get_or}
use Rattle.snapshot.proofs.tally.searches.lost.Given as goal

-- each element so far is free or held
abbrev pub invariant-loop-elem : goal.invariant-loop-elem
invariant-loop-elem l = (i : ℕ) → i < l.elem → 0 < get_or l.free i 0 + get_or l.held i 0
