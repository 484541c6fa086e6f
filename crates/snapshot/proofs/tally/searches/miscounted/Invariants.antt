use Rattle.std.proofs.Common.{ℕ, ◌≡◌, ◌<◌, get_or}
use Rattle.std.specs.Prelude.{max}
use Rattle.snapshot.proofs.tally.searches.miscounted.Given as goal

-- the counts so far are the numbers of holds, or 1
abbrev pub invariant-loop-elem : goal.invariant-loop-elem
invariant-loop-elem l = (i : ℕ) → i < l.elem → get_or l.counts i 0 ≡ max 1 (get_or l.held i 0)
