use Rattle.std.proofs.Common.{◌≡◌}
use Rattle.depot.specs.Racks.{Racked, SameLent, stock}
use Rattle.depot.specs.Seats.{Logs}
use Rattle.depot.proofs.rack.Rack.give_full.Given as goal

-- some elements have gone, and none is lent
abbrev pub invariant-loop-self : goal.invariant-loop-self
invariant-loop-self l =
    Racked l.fn.depot l.self × Logs l.fn.self.seat.me.0 l.self.seat.me.0 × SameLent l.fn.self.seat.me l.self.seat.me
    × (l.left ≡ stock l.self.seat.me.1)

-- how many are left
abbrev pub decreases-loop-self : goal.decreases-loop-self
decreases-loop-self l = l.left
