use Rattle.std.proofs.Common.{ℕ, ◌≡◌, ◌<◌, ◌-◌, length, get_or}
use Rattle.mempool.proofs.steps.copy_reversed.Given as goal

-- the places so far have the last elements of the run, the last first
abbrev pub invariant-loop-place : goal.invariant-loop-place
invariant-loop-place l =
    (k : ℕ) → k < l.place → get_or l.out k 0 ≡ get_or l.run (length l.run - 1 - k) 0
