use Rattle.std.proofs.Common.{◌≤◌, ◌*◌}
use Rattle.depot.specs.Racks.{Racked, Keeps}
use Rattle.depot.specs.Seats.{Logs}
use Rattle.depot.proofs.Turns.{Walk}
use Rattle.depot.proofs.rack.Rack.load.Given as goal

-- a walk, which has passed as many magazines as it has turned
abbrev pub invariant-loop : goal.invariant-loop
invariant-loop l =
    Racked l.fn.depot l.self × Logs l.fn.self.seat.me.0 l.self.seat.me.0
    × Keeps l.fn.depot.rounds l.fn.self.seat.me l.self.seat.me
    × Walk l.fn.depot.rounds l.count l.counter l.stock l.room l.self.seat.me.1
    × (l.stock ≤ 128 * l.counter) × (l.room ≤ 128 * l.counter)
