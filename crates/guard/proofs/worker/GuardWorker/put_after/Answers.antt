use Rattle.guard.proofs.Since.{since-none, since-on, not-put-on}
use Rattle.guard.proofs.worker.GuardWorker.put_after.Goals as goal

-- none of the pool
pub returns-then-element-len-clause-since : goal.returns-then-element-len-clause-since
returns-then-element-len-clause-since c = since-none _

-- with room
pub returns-then-surplus-gt0-clause-since : goal.returns-then-surplus-gt0-clause-since
returns-then-surplus-gt0-clause-since c =
    since-on _ _ _ c.make_room.ensures.since (since-on _ _ _ c.put_here.ensures.since c.relieve.ensures.since)

pub returns-else-surplus-gt0-clause-since : goal.returns-else-surplus-gt0-clause-since
returns-else-surplus-gt0-clause-since c = since-on _ _ _ c.make_room.ensures.since c.put_here.ensures.since

pub returns-in-Err-put_here-clause-not : goal.returns-in-Err-put_here-clause-not
returns-in-Err-put_here-clause-not c =
    not-put-on c.args.depot.now c.in-Err-put_here.why _ _ c.make_room.new.self _ c.make_room.ensures.since.later
    c.in-Err-put_here.ensures.not

pub returns-in-Err-put_here-clause-since : goal.returns-in-Err-put_here-clause-since
returns-in-Err-put_here-clause-since c = since-on _ _ _ c.make_room.ensures.since c.put_here.ensures.since
