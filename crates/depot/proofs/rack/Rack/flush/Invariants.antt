use Rattle.std.proofs.Common.{◌+◌, ◌≤◌}
use Rattle.depot.specs.Racks.{Racked, SameLent}
use Rattle.depot.specs.Seats.{Logs}
use Rattle.depot.proofs.rack.Rack.flush.Given as goal

-- some elements have gone, none is lent, and as many exchanges were lost as there were tries
abbrev pub invariant-loop : goal.invariant-loop
invariant-loop l =
    Racked l.fn.depot l.self × Logs l.fn.self.seat.me.0 l.self.seat.me.0 × SameLent l.fn.self.seat.me l.self.seat.me
    × (l.fn.self.seat.me.0.lost + l.counter ≤ l.self.seat.me.0.lost)
