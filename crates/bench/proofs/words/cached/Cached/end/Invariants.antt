use Rattle.std.proofs.Common.{ℕ, ◌≡◌, ◌≤◌}
use Rattle.commons.specs.Bag.{bag}
use Rattle.stack_lf.specs.Sides.{side_of}
use Rattle.bench.proofs.words.cached.Cached.end.Given as goal

-- the worker is of the pool, and its cache is in its hand
abbrev pub invariant-loop-try : goal.invariant-loop-try
invariant-loop-try l = record {
  limits : (side_of l.c.seat).limits ≡ l.worker.limits;
  cached : (i : ℕ) → bag l.worker.cache i ≤ (side_of l.c.seat).hand i;
}
