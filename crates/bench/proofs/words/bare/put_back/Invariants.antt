use Rattle.std.proofs.Common.{ℕ, ◌≤◌}
use Rattle.commons.specs.Bag.{bag}
use Rattle.bench.proofs.words.bare.put_back.Given as goal

-- the list stays in the hand
abbrev pub invariant-loop-refused : goal.invariant-loop-refused
invariant-loop-refused g l = (i : ℕ) → bag l.fn.list i ≤ (g.C.Commons.side l.c).hand i
