use Rattle.guard.proofs.Since.{since-on, refused-after}
use Rattle.guard.proofs.worker.GuardWorker.get_one.Goals as goal

-- it wasn't at hand
pub returns-in-None-clause-cause : goal.returns-in-None-clause-cause
returns-in-None-clause-cause c =
    refused-after c.get_after.result _ _ _ _ c.get_at_hand.ensures.since.later c.get_after.ensures.cause

pub returns-in-None-clause-since : goal.returns-in-None-clause-since
returns-in-None-clause-since c = since-on _ _ _ c.get_at_hand.ensures.since c.get_after.ensures.since
