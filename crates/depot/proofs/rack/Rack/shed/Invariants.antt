use Rattle.std.proofs.Common.{◌≤◌, length}
use Rattle.depot.specs.Racks.{Racked, SameLent, stock}
use Rattle.depot.specs.Seats.{Logs}
use Rattle.depot.proofs.rack.Rack.shed.Given as goal

-- some have gone, and nothing is lent
abbrev pub invariant-loop-self : goal.invariant-loop-self
invariant-loop-self l =
    Racked l.fn.depot l.self × Logs l.fn.self.seat.me.0 l.self.seat.me.0 × SameLent l.fn.self.seat.me l.self.seat.me
    × (stock l.self.seat.me.1 ≤ stock l.fn.self.seat.me.1)

-- how many there are
abbrev pub decreases-loop-self : goal.decreases-loop-self
decreases-loop-self l = length l.self.seat.me.1
