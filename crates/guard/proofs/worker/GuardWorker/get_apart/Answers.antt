use Rattle.guard.proofs.Since.{since-on, refused-by}
use Rattle.guard.proofs.worker.GuardWorker.get_apart.Goals as goal

-- of what waits
pub returns-in-Some-clause-since : goal.returns-in-Some-clause-since
returns-in-Some-clause-since c = since-on _ _ _ c.get_stocked.ensures.since c.get_waiting.ensures.since

-- nothing waits
pub returns-in-None-clause-cause : goal.returns-in-None-clause-cause
returns-in-None-clause-cause c = refused-by _ _ _ _ _ c.in-Err.ensures.cause c.get_waiting.ensures.since.later

pub returns-in-None-clause-since : goal.returns-in-None-clause-since
returns-in-None-clause-since c = since-on _ _ _ c.get_stocked.ensures.since c.get_waiting.ensures.since
