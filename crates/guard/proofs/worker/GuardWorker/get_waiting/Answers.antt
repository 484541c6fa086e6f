use Rattle.std.proofs.Common.{refl}
use Rattle.guard.proofs.Since.{still-none, since-none, still-on, since-on, since-kept}
use Rattle.guard.proofs.worker.GuardWorker.get_waiting.Goals as goal

pub loop-init : goal.loop-init
loop-init c = (c.requires.of, still-none _, since-none _)

-- one more was stale
pub loop-preserved : goal.loop-preserved
loop-preserved c =
    let e = c.get_entry.ensures in (
      e.of,
      still-on _ _ _ c.loop.invariant.1 (c.if-get_entry.ensures.not refl),
      since-on _ _ _ c.loop.invariant.2 (since-kept _ _ _ e.since),
    )

-- it is out now
pub returns-then-get_entry-clause-since : goal.returns-then-get_entry-clause-since
returns-then-get_entry-clause-since c =
    since-on _ _ _ c.loop.invariant.2 (since-kept _ _ _ c.get_entry.ensures.since)
