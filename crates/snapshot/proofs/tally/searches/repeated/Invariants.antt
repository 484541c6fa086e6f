use Rattle.std.proofs.Common.{ℕ, ◌<◌, ◌≤◌, get_or}
use Rattle.snapshot.proofs.tally.searches.repeated.Given as goal

-- the numbers so far are 1 at most
abbrev pub invariant-loop-elem : goal.invariant-loop-elem
invariant-loop-elem l = (i : ℕ) → i < l.elem → get_or l.own i 0 ≤ 1
