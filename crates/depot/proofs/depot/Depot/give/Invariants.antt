use Rattle.std.proofs.Common.{◌+◌, ◌≤◌}
use Rattle.depot.specs.Seats.{IsOf, Stays}
use Rattle.depot.proofs.depot.Depot.give.Given as goal

-- as many exchanges were lost so far, and nothing else was done
abbrev pub invariant-loop : goal.invariant-loop
invariant-loop l =
    IsOf l.fn.self l.seat × Stays l.fn.seat.me l.seat.me × (l.fn.seat.me.0.lost + l.counter ≤ l.seat.me.0.lost)
