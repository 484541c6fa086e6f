use Rattle.std.proofs.Common.{◌≡◌, take, length}
use Rattle.std.specs.List.{range_with_len}
use Rattle.depot.proofs.opening.run_from.Given as goal

abbrev pub invariant-loop-k : goal.invariant-loop-k
invariant-loop-k l = (take l.k l.list ≡ range_with_len l.fn.from l.k) × (length l.list ≡ 128)
