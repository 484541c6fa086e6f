use Rattle.std.proofs.Common.{◌-◌, length}
use Rattle.depot.specs.Racks.{Racked, SameLent}
use Rattle.depot.specs.Seats.{Logs}
use Rattle.depot.proofs.rack.Rack.fetch_stocked.Given as goal

-- some magazines have come
abbrev pub invariant-loop-self : goal.invariant-loop-self
invariant-loop-self l =
    Racked l.fn.depot l.self × Logs l.fn.self.seat.me.0 l.self.seat.me.0 × SameLent l.fn.self.seat.me l.self.seat.me

-- how many more any depot could have
abbrev pub decreases-loop-self : goal.decreases-loop-self
decreases-loop-self l = 65535 - length l.self.seat.me.1
