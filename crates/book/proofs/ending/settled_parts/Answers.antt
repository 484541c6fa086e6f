-- What the pool leaves with the book is what it left with the shares that were put in it.
use Rattle.book.proofs.ending.settled_parts.Goals as goal

pub settled_book-requires-clause-lawful : goal.settled_book-requires-clause-lawful
settled_book-requires-clause-lawful c =
    let e = c.in_ok-book.ensures in
    rw (e.limits, e.shares) c.requires.lawful

pub returns-clause-lawful : goal.returns-clause-lawful
returns-clause-lawful c =
    let e = c.in_ok-book.ensures in
    rw (e.limits, e.shares) at c.settled_book.ensures.lawful

pub returns-clause-statement : goal.returns-clause-statement
returns-clause-statement c =
    let e = c.in_ok-book.ensures in
    rw (e.limits, e.shares) at c.settled_book.ensures.statement
