use Rattle.std.proofs.Common.{◌≡◌, ◌≤◌, ◌-◌, length, take}
use Rattle.depot.specs.Racks.{Racked, Lets}
use Rattle.depot.specs.Seats.{Logs}
use Rattle.depot.proofs.rack.Rack.take_all.Given as goal

-- the first part of the list is taken out
abbrev pub invariant-loop-done : goal.invariant-loop-done
invariant-loop-done l =
    Racked l.fn.depot l.self × Logs l.fn.self.seat.me.0 l.self.seat.me.0
    × Lets l.fn.depot.rounds (take l.done l.out) l.fn.self.seat.me l.self.seat.me
    × (l.done ≤ l.n) × (length l.out ≡ l.n)

-- how many are missing
abbrev pub decreases-loop-done : goal.decreases-loop-done
decreases-loop-done l = l.n - l.done
