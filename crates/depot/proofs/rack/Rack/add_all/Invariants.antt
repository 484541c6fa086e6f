use Rattle.std.proofs.Common.{◌≤◌, ◌-◌, take}
use Rattle.depot.specs.Racks.{Racked, Lets}
use Rattle.depot.specs.Seats.{Logs}
use Rattle.depot.proofs.rack.Rack.add_all.Given as goal

-- the first part of the list is in the magazines
abbrev pub invariant-loop-done : goal.invariant-loop-done
invariant-loop-done l =
    Racked l.fn.depot l.self × Logs l.fn.self.seat.me.0 l.self.seat.me.0
    × Lets l.fn.depot.rounds (take l.done l.list) l.self.seat.me l.fn.self.seat.me
    × (l.done ≤ l.n)

-- how many are left
abbrev pub decreases-loop-done : goal.decreases-loop-done
decreases-loop-done l = l.n - l.done
