use Rattle.std.proofs.Common.{◌≡◌, ◌-◌}
use Rattle.depot.specs.Racks.{Racked, SameLent, room}
use Rattle.depot.specs.Seats.{Logs}
use Rattle.depot.proofs.rack.Rack.fetch_room.Given as goal

-- some magazines have come
abbrev pub invariant-loop-room : goal.invariant-loop-room
invariant-loop-room l =
    Racked l.fn.depot l.self × Logs l.fn.self.seat.me.0 l.self.seat.me.0 × SameLent l.fn.self.seat.me l.self.seat.me
    × (l.room ≡ room l.fn.depot.rounds l.self.seat.me.1)

-- how much is missing
abbrev pub decreases-loop-room : goal.decreases-loop-room
decreases-loop-room l = l.n - l.room
