use Rattle.std.proofs.Common.{◌≡◌, [], replicate}
use Rattle.depot.proofs.opening.empty_magazines.Given as goal

abbrev pub invariant-loop : goal.invariant-loop
invariant-loop l = l.magazines.items ≡ replicate l.counter []
