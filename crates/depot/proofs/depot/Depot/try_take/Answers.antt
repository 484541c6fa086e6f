use Rattle.std.proofs.Common.{refl, arith}
use Rattle.depot.specs.Seats.{IsEmptyHead, IsSpentHead}
use Rattle.depot.proofs.Logging.{read-stays, read-last}
use Rattle.depot.proofs.depot.Depot.try_take.Goals as goal

-- the stack was empty
pub returns-in-Full-clause-once : goal.returns-in-Full-clause-once
returns-in-Full-clause-once c =
    let me = c.load_head-head.ensures.me in
    let top = c.top_of-top.ensures in (
      read-stays _ _ _ _ me,
      read-last _ _ _ _ _ IsEmptyHead refl me (omega arith),
    )

pub returns-in-Empty-clause-once : goal.returns-in-Empty-clause-once
returns-in-Empty-clause-once c =
    let me = c.load_head-head.ensures.me in
    let top = c.top_of-top.ensures in (
      read-stays _ _ _ _ me,
      (c.in-Empty.is, read-last _ _ _ _ _ IsEmptyHead c.in-Empty.is me (omega arith)),
    )

-- its count was spent
pub returns-then-count_of-ge-SPENT-clause-once : goal.returns-then-count_of-ge-SPENT-clause-once
returns-then-count_of-ge-SPENT-clause-once c =
    let me = c.load_head-head.ensures.me in
    let count = c.count_of.ensures in (
      read-stays _ _ _ _ me,
      read-last _ _ _ _ _ IsSpentHead refl me (omega arith),
    )
