-- What the pools leave with the book is what they left with the shares that were put in it.
use Rattle.book.proofs.twin_ending.settled_twins.Goals as goal

pub settled_book-requires-clause-first_lawful : goal.settled_book-requires-clause-first_lawful
settled_book-requires-clause-first_lawful c =
    let e = c.in_ok-book.ensures in
    rw (e.first_limits, e.first_shares, e.second_shares) c.requires.first_lawful

pub settled_book-requires-clause-second_lawful : goal.settled_book-requires-clause-second_lawful
settled_book-requires-clause-second_lawful c =
    let e = c.in_ok-book.ensures in
    rw (e.second_limits, e.second_shares) c.requires.second_lawful

pub returns-clause-first_statement : goal.returns-clause-first_statement
returns-clause-first_statement c =
    let e = c.in_ok-book.ensures in
    rw (e.first_limits, e.first_shares, e.second_shares) at c.settled_book.ensures.first_statement

pub returns-clause-second_statement : goal.returns-clause-second_statement
returns-clause-second_statement c =
    let e = c.in_ok-book.ensures in
    rw (e.second_limits, e.second_shares) at c.settled_book.ensures.second_statement

pub returns-clause-lawful : goal.returns-clause-lawful
returns-clause-lawful c =
    let e = c.in_ok-book.ensures in
    rw (e.first_limits, e.first_shares, e.second_limits, e.second_shares) at c.settled_book.ensures.lawful

pub returns-clause-first_once : goal.returns-clause-first_once
returns-clause-first_once c =
    let e = c.in_ok-book.ensures in
    rw e.second_shares at c.settled_book.ensures.first_once

pub returns-clause-second_once : goal.returns-clause-second_once
returns-clause-second_once c = c.settled_book.ensures.second_once
