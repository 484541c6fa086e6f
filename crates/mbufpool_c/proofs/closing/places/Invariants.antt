use Rattle.std.proofs.Common.{◌≡◌, length}
use Rattle.mbufpool_c.proofs.closing.places.Given as goal

abbrev pub invariant-loop-k : goal.invariant-loop-k
invariant-loop-k l = length l.places.items ≡ l.k
