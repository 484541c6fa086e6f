use Rattle.std.proofs.Common.{◌≡◌, ◌<◌, length}
use Rattle.depot.specs.Racks.{Racked, Keeps, front_of, stock}
use Rattle.depot.specs.Seats.{Logs}
use Rattle.depot.proofs.Turns.{empties}
use Rattle.depot.proofs.rack.Rack.bring_some.Given as goal

-- it has turned alone
abbrev pub invariant-loop-n : goal.invariant-loop-n
invariant-loop-n l =
    Racked l.fn.depot l.self × Logs l.fn.self.seat.me.0 l.self.seat.me.0
    × Keeps l.fn.depot.rounds l.fn.self.seat.me l.self.seat.me
    × (l.n ≡ length (front_of l.self.seat.me.1)) × (0 < stock l.self.seat.me.1)

-- how many without elements stand before the first one that has some
abbrev pub decreases-loop-n : goal.decreases-loop-n
decreases-loop-n l = empties l.self.seat.me.1
