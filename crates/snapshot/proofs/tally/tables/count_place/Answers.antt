use Rattle.std.proofs.Common.{[], arith}
use Rattle.commons.specs.Bag.{bag}
use Rattle.commons.proofs.Bags.{bag-nil}
use Rattle.snapshot.proofs.Meetings.{met-none}
use Rattle.snapshot.proofs.tally.tables.count_place.Goals as goal

-- an empty place has no own element
pub returns-in-None-clause-own : goal.returns-in-None-clause-own
returns-in-None-clause-own c =
    rw c.in-None.is
    (met-none (bag []) c.args.own.now.items (λ i l. omega (arith, c.type_inv.own i 0 l)) bag-nil)

-- and holds nothing
pub returns-in-None-clause-held : goal.returns-in-None-clause-held
returns-in-None-clause-held c = rw c.in-None.is (met-none (bag []) c.args.held.now.items
    (λ i l. omega (arith, c.type_inv.held i 0 l)) bag-nil)
