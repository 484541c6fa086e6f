use Rattle.std.proofs.Common.{◌≡◌, [], replicate}
use Rattle.snapshot.specs.inside.Adding.{lists_of}
use Rattle.snapshot.proofs.placing.empty_lists.Given as goal

-- this many empty lists so far
abbrev pub invariant-loop : goal.invariant-loop
invariant-loop g l = lists_of l.lists.items ≡ replicate l.counter []
