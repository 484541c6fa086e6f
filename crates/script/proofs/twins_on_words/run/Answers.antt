-- The statements of lawful snapshots are those of all the workers of both grounds.
use Rattle.book.specs.Left.{first_of, second_of}
use Rattle.script.proofs.twins_on_words.run.Goals as goal

pub returns-clause-ended : goal.returns-clause-ended
returns-clause-ended g c = λ lawful.
    let left = c.in_ok-grounds in
    let closed = c.in_ok-closed.closed in
    let once = c.a_lawful_snapshot_lists_each_element_once.ensures.once in
    let first = first_of closed.first_limits closed.first closed.shares.items in
    let second = second_of closed.second_limits closed.second closed.shares.items in
    record {
      first_shared = left.grounds.first;
      second_shared = left.grounds.second;
      workers = left.workers.items;
      first_limits = left.ensures.first_limits;
      second_limits = left.ensures.second_limits;
      all = left.ensures.workers;
      statements = c.in_ok-closed.ensures.statements (once first lawful.first) (once second lawful.second);
    }
