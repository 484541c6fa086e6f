use Rattle.std.proofs.Common.{◌+◌, ◌-◌}
use Rattle.ground.specs.Seats.{IsOf}
use Rattle.word_pool.specs.inside.Crews.{IsUnused}
use Rattle.word_pool.specs.inside.TwinCrews.{AreFirstTwins}
use Rattle.word_pool.proofs.twin_pool.twins.Given as goal

-- the workers of smaller numbers are made, and the parts of the others are left
abbrev pub invariant-loop-number : goal.invariant-loop-number
invariant-loop-number l = record {
  made : AreFirstTwins l.first l.second (l.number - 1) l.workers.items;
  first_of : IsOf l.first l.rest.seats.first;
  second_of : IsOf l.second l.rest.seats.second;
  first_unused : IsUnused l.first.limits (l.first.limits.workers + 1 - l.number) l.rest.seats.first;
  second_unused : IsUnused l.second.limits (l.first.limits.workers + 1 - l.number) l.rest.seats.second;
}
