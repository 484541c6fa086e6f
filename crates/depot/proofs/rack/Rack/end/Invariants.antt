use Rattle.std.proofs.Common.{length}
use Rattle.depot.specs.Racks.{Racked}
use Rattle.depot.proofs.rack.Rack.end.Given as goal

abbrev pub invariant-loop-self : goal.invariant-loop-self
invariant-loop-self l = Racked l.depot l.self

-- how many magazines there are
abbrev pub decreases-loop-self : goal.decreases-loop-self
decreases-loop-self l = length l.self.seat.me.1
