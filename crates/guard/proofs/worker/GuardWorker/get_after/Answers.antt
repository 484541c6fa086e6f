use Rattle.guard.proofs.Since.{still-none, since-none, still-on, since-on, later-on, refused-after}
use Rattle.guard.proofs.worker.GuardWorker.get_after.Goals as goal

pub loop-init : goal.loop-init
loop-init c = (c.requires.of, still-none _, since-none _)

-- one more was stale
pub loop-preserved : goal.loop-preserved
loop-preserved c =
    let e = c.get_ready.ensures in (
      e.of,
      still-on _ _ _ c.loop.invariant.1 (c.in-Some.ensures.not c.if-is_out.false),
      since-on _ _ _ c.loop.invariant.2 e.since,
    )

-- it is out now
pub returns-then-is_out-clause-since : goal.returns-then-is_out-clause-since
returns-then-is_out-clause-since c = since-on _ _ _ c.loop.invariant.2 c.get_ready.ensures.since

-- all others wait
pub returns-in-None-clause-cause : goal.returns-in-None-clause-cause
returns-in-None-clause-cause c =
    refused-after c.get_apart.result _ _ _ _ (later-on _ _ _ c.loop.invariant.2.later c.get_ready.ensures.since.later)
    c.get_apart.ensures.cause

pub returns-in-None-clause-since : goal.returns-in-None-clause-since
returns-in-None-clause-since c =
    since-on _ _ _ c.loop.invariant.2 (since-on _ _ _ c.get_ready.ensures.since c.get_apart.ensures.since)

-- or all were stale
pub returns-clause-cause : goal.returns-clause-cause
returns-clause-cause c =
    refused-after c.get_apart-2.result _ _ _ _ c.loop.invariant.2.later c.get_apart-2.ensures.cause

pub returns-clause-since : goal.returns-clause-since
returns-clause-since c = since-on _ _ _ c.loop.invariant.2 c.get_apart-2.ensures.since
