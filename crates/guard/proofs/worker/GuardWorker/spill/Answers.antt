use Rattle.guard.proofs.Since.{since-on}
use Rattle.guard.proofs.worker.GuardWorker.spill.Goals as goal

pub returns-in-Ok-clause-since : goal.returns-in-Ok-clause-since
returns-in-Ok-clause-since c = since-on _ _ _ c.give_first.ensures.since c.relieve.ensures.since
