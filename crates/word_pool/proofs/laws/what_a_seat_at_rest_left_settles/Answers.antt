-- A whole pool at rest was left.
use Rattle.word_pool.proofs.Settles.{book_settles, twins_settle, whole_settles}
use Rattle.word_pool.proofs.laws.what_a_seat_at_rest_left_settles.Goals as goal

pub returns-clause-whole : goal.returns-clause-whole
returns-clause-whole c = whole_settles

pub returns-clause-book : goal.returns-clause-book
returns-clause-book c = book_settles

pub returns-clause-twins : goal.returns-clause-twins
returns-clause-twins c = twins_settle
