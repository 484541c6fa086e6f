use Rattle.std.proofs.Common.{◌+◌, ◌-◌}
use Rattle.snapshot.proofs.Marks.{IsWalking}
use Rattle.snapshot.proofs.lost.mark_walk.Given as goal

-- what the walk has met is marked
abbrev pub invariant-loop : goal.invariant-loop
invariant-loop l =
    IsWalking l.population l.links l.top l.fn.met.items l.met.items (l.population + 1 - l.counter) l.word
