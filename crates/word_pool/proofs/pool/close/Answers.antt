-- All workers have all parts, and their shares are what the one seat has.
use Rattle.std.proofs.Common.{◌∙◌}
use Rattle.word_pool.specs.inside.Joins.{AreClosed}
use Rattle.word_pool.proofs.WholeLeft.{counts_within, left_whole, statement_fresh, statement_of_workers}
use Rattle.word_pool.proofs.pool.close.Goals as goal
use Rattle.word_pool.proofs.pool.close.Goals.{In-Ok-closed_by}

-- the ground was closed by the one seat of its workers
closed : (c : In-Ok-closed_by) → AreClosed c.args.ground c.args.workers.items c.joined-seat.result.0.known
    c.in-Ok-closed_by.limits c.in-Ok-closed_by.closed c.joined-seat.result.1.items
closed c = record {
  all = c.requires;
  closed = c.in-Ok-closed_by.ensures.closed;
  seat = c.joined-seat.ensures.made;
  limits = c.joined-seat.ensures.of.limits;
  whole = c.joined-seat.ensures.made.part ∙ c.requires.parts;
  desks = c.joined-seat.ensures.desks;
  idle = c.joined-seat.ensures.idle;
  same = c.joined-seat.ensures.members;
  shares = c.joined-seat.ensures.shares;
}

-- so what it left is a whole pool at rest
pub returns-in-Ok-closed_by-clause-whole : goal.returns-in-Ok-closed_by-clause-whole
returns-in-Ok-closed_by-clause-whole c = left_whole _ _ _ _ _ _ (closed c)

-- with the statement of these workers
pub returns-in-Ok-closed_by-clause-statement : goal.returns-in-Ok-closed_by-clause-statement
returns-in-Ok-closed_by-clause-statement c = statement_of_workers _ _ _ _ _ _ (closed c)

-- where no worker has acted, that of the start
pub returns-in-Ok-closed_by-clause-fresh : goal.returns-in-Ok-closed_by-clause-fresh
returns-in-Ok-closed_by-clause-fresh c = λ none.
    statement_fresh _ _ _ _ _ _ (closed c) (c.joined-seat.ensures.unmoved none)

-- and no count in it is above the reference limit
pub returns-in-Ok-closed_by-clause-counts : goal.returns-in-Ok-closed_by-clause-counts
returns-in-Ok-closed_by-clause-counts c = counts_within _ _ _ _ _ _ (closed c)
