-- The statement is that of all the ground's workers.
use Rattle.script.proofs.on_words.run.Goals as goal

pub returns-clause-ended : goal.returns-clause-ended
returns-clause-ended g c =
    let left = c.in_ok-ground in
    record {
      shared = left.ground;
      workers = left.workers.items;
      limits = left.ensures.limits;
      all = left.ensures.workers;
      statement = c.in_ok-limits.ensures.statement;
    }
