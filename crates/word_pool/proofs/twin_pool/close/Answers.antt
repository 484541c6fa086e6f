-- All workers have all parts of both grounds, and their shares are what the one seat of each has.
use Rattle.std.proofs.Common.{arith}
use Rattle.word_pool.specs.inside.TwinCrews.{AreTwinsClosed}
use Rattle.word_pool.proofs.TwinJoins.{count_of_twins}
use Rattle.word_pool.proofs.TwinLeft.{statements_of_twins, twin_counts, twins_fresh, twins_left_whole}
use Rattle.word_pool.proofs.twin_pool.close.Goals as goal
use Rattle.word_pool.proofs.twin_pool.close.Goals.{In-Ok-closed_by-2}

pub joined-seats-requires-clause-some : goal.joined-seats-requires-clause-some
joined-seats-requires-clause-some c =
    omega (
      arith,
      count_of_twins c.args.first c.args.second c.args.workers.items c.requires,
      c.requires.pools.twins.first.workers_low,
    )

-- each ground was closed by the one seat of its workers
closed : (c : In-Ok-closed_by-2) → AreTwinsClosed c.args.first c.args.second c.args.workers.items
    c.joined-seats.result.0.first c.joined-seats.result.0.second (record {
      first_limits = c.in-Ok-closed_by.left.0;
      first = c.in-Ok-closed_by.left.1;
      second_limits = c.in-Ok-closed_by-2.second_limits;
      second = c.in-Ok-closed_by-2.second;
      shares = c.joined-seats.result.1;
    })
closed c = record {
  all = c.requires;
  first = c.in-Ok-closed_by.ensures.closed;
  second = c.in-Ok-closed_by-2.ensures.closed;
  first_whole = c.joined-seats.ensures.first;
  second_whole = c.joined-seats.ensures.second;
  first_desks = c.joined-seats.ensures.first_desks;
  second_desks = c.joined-seats.ensures.second_desks;
  idle = c.joined-seats.ensures.idle;
  same = c.joined-seats.ensures.members;
  shares = c.joined-seats.ensures.shares;
}

-- so what they left are two whole pools at rest
pub returns-in-Ok-closed_by-2-clause-whole : goal.returns-in-Ok-closed_by-2-clause-whole
returns-in-Ok-closed_by-2-clause-whole c =
    twins_left_whole _ _ _ _ _ _ (closed c)

-- with the statements of these workers
pub returns-in-Ok-closed_by-2-clause-statements : goal.returns-in-Ok-closed_by-2-clause-statements
returns-in-Ok-closed_by-2-clause-statements c =
    statements_of_twins _ _ _ _ _ _ (closed c)

-- where no worker has acted, as at the start
pub returns-in-Ok-closed_by-2-clause-fresh : goal.returns-in-Ok-closed_by-2-clause-fresh
returns-in-Ok-closed_by-2-clause-fresh c = λ none.
    let unmoved = c.joined-seats.ensures.unmoved none in
    twins_fresh _ _ _ _ _ _ (closed c) unmoved.0 unmoved.1

-- no count is above the reference limit
pub returns-in-Ok-closed_by-2-clause-counts : goal.returns-in-Ok-closed_by-2-clause-counts
returns-in-Ok-closed_by-2-clause-counts c = twin_counts _ _ _ _ _ _ (closed c)
