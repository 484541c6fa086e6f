use Rattle.mbufpool_c.specs.Closes.{HaveSame}
use Rattle.mbufpool_c.proofs.closing.first_shared.Given as goal

abbrev pub invariant-loop-k : goal.invariant-loop-k
invariant-loop-k l = HaveSame l.fn.handles l.handles
