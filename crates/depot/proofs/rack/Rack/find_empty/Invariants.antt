use Rattle.depot.specs.Racks.{Racked, Keeps}
use Rattle.depot.specs.Seats.{Logs}
use Rattle.depot.proofs.rack.Rack.find_empty.Given as goal

-- it has turned alone
abbrev pub invariant-loop : goal.invariant-loop
invariant-loop l =
    Racked l.fn.depot l.self × Logs l.fn.self.seat.me.0 l.self.seat.me.0
    × Keeps l.fn.depot.rounds l.fn.self.seat.me l.self.seat.me
