use Rattle.std.proofs.Common.{refl, arith}
use Rattle.depot.specs.Seats.{IsSpentHead}
use Rattle.depot.proofs.Logging.{read-stays, read-last}
use Rattle.depot.proofs.depot.Depot.try_give.Goals as goal

-- the stack's count was spent
pub returns-then-count_of-ge-SPENT-clause-once : goal.returns-then-count_of-ge-SPENT-clause-once
returns-then-count_of-ge-SPENT-clause-once c xs is =
    let me = c.load_head-found.ensures.me in
    let count = c.count_of.ensures in (
      read-stays _ _ _ _ me,
      read-last _ _ _ _ _ IsSpentHead refl me (omega arith),
    )
