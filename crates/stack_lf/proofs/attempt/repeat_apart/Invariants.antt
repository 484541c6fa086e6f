use Rattle.std.proofs.Common.{length}
use Rattle.ground.specs.Seats.{IsOf, Seated}
use Rattle.stack_lf.specs.Effects.{HasLost}
use Rattle.stack_lf.proofs.attempt.repeat_apart.Given as goal

-- with the first one the tries so far lost, and another may be made
abbrev pub invariant-loop : goal.invariant-loop
invariant-loop g l = record {
  lost : (first : Seated) → HasLost (g.A.Attempt.loses l.fn.attempt l.fn.ground.limits) 1 first l.fn.seat →
      HasLost (g.A.Attempt.loses l.fn.attempt l.fn.ground.limits) l.counter first l.seat;
  of : IsOf l.fn.ground l.seat;
  may : g.A.Attempt.may l.fn.attempt (length l.fn.out) l.seat.known.view;
}
