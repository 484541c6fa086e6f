use Rattle.book.proofs.ListedGuests.{each_listed}
use Rattle.book.proofs.twin_ending.settled_book.Goals as goal

-- the guests of the first are those that the second statement tells of
pub returns-in-Ok-clause-each : goal.returns-in-Ok-clause-each
returns-in-Ok-clause-each c =
    let e = c.in-Ok.ensures in
    each_listed c.args.book c.args.first c.args.second c.in-Ok.statements.0 c.in-Ok.statements.1 e.statements.1
    e.once.0 e.once.1
