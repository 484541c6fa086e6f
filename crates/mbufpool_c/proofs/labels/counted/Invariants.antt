use Rattle.std.proofs.Common.{◌≡◌, ◌<◌, ℕ, get_or, length}
use Rattle.mbufpool_c.proofs.labels.counted.Given as goal

-- the places that were passed have their numbers
abbrev pub invariant-loop-k : goal.invariant-loop-k
invariant-loop-k l = record {
  count : length l.of ≡ 256;
  each : (j d : ℕ) → j < l.k → get_or l.of j d ≡ j;
}
