use Rattle.std.proofs.Common.{◌≡◌, ◌<◌, ◌+◌, length}
use Rattle.depot.specs.Racks.{Racked, Keeps, front_of, room}
use Rattle.depot.specs.Seats.{Logs}
use Rattle.depot.proofs.Turns.{fulls}
use Rattle.depot.proofs.rack.Rack.bring_room.Given as goal

-- it has turned alone
abbrev pub invariant-loop-n : goal.invariant-loop-n
invariant-loop-n l =
    Racked l.fn.depot l.self × Logs l.fn.self.seat.me.0 l.self.seat.me.0
    × Keeps l.fn.depot.rounds l.fn.self.seat.me l.self.seat.me
    × (l.n + length (front_of l.self.seat.me.1) ≡ l.fn.depot.rounds) × (0 < room l.fn.depot.rounds l.self.seat.me.1)

-- how many without room stand before the first one that has some
abbrev pub decreases-loop-n : goal.decreases-loop-n
decreases-loop-n l = fulls l.fn.depot.rounds l.self.seat.me.1
