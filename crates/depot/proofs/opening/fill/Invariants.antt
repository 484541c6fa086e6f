use Rattle.std.proofs.Common.{◌-◌, ◌≤◌}
use Rattle.depot.specs.Lending.{AreOf, FillsTo, IsWorker, KeepsAll, log_of}
use Rattle.depot.proofs.opening.fill.Given as goal

-- what was put is lent once less, and all else as before
abbrev pub invariant-loop-next : goal.invariant-loop-next
invariant-loop-next l =
    IsWorker l.fn.depot l.worker × AreOf l.fn.depot l.loans × (l.next ≤ l.fn.population)
    × FillsTo l.next l.fn.worker l.fn.loans l.worker l.loans
    × KeepsAll (log_of l.fn.worker) l.fn.loans (log_of l.worker) l.loans

abbrev pub decreases-loop-next : goal.decreases-loop-next
decreases-loop-next l = l.fn.population - l.next
