use Rattle.guard.proofs.Since.{since-on, put-at-last, not-put-at-last}
use Rattle.guard.proofs.worker.GuardWorker.put_one.Goals as goal

-- it wasn't at hand
pub returns-clause-put : goal.returns-clause-put
returns-clause-put c =
    put-at-last c.put_after.result _ _ _ _ (c.put_at_hand.ensures.still c.if-put_at_hand.false) c.put_after.ensures.put

pub returns-clause-not : goal.returns-clause-not
returns-clause-not c =
    not-put-at-last c.put_after.result c.args.depot.now _ _ c.put_at_hand.new.self _ c.put_at_hand.ensures.since.later c.put_after.ensures.not

pub returns-clause-since : goal.returns-clause-since
returns-clause-since c = since-on _ _ _ c.put_at_hand.ensures.since c.put_after.ensures.since
