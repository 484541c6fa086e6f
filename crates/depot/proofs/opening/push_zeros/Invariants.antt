use Rattle.std.proofs.Common.{◌≡◌, ◌++◌}
use Rattle.depot.specs.Opening.{zeros}
use Rattle.depot.proofs.opening.push_zeros.Given as goal

abbrev pub invariant-loop : goal.invariant-loop
invariant-loop l = l.words.items ≡ l.initial.words.items ++ zeros l.counter
