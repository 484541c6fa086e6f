use Rattle.std.proofs.Common.{◌+◌, ◌-◌}
use Rattle.ground.specs.Seats.{IsOf}
use Rattle.word_pool.specs.inside.Crews.{AreFirst, IsUnused}
use Rattle.word_pool.proofs.pool.workers_of.Given as goal

-- the workers of smaller numbers are made, and the parts of the others are left
abbrev pub invariant-loop-number : goal.invariant-loop-number
invariant-loop-number l = record {
  first : AreFirst l.ground (l.number - 1) l.workers.items;
  of : IsOf l.ground l.rest.seat;
  unused : IsUnused l.ground.limits (l.ground.limits.workers + 1 - l.number) l.rest.seat;
}
