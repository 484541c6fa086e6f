use Rattle.std.proofs.Common.{refl, ◌∙◌, arith}
use Rattle.guard.proofs.Since.{still-none, since-none, still-on, since-on}
use Rattle.guard.proofs.worker.GuardWorker.relieve.Goals as goal

pub loop-init : goal.loop-init
loop-init c = (c.requires.of, still-none _, since-none _, omega arith, refl)

-- one more was given
pub loop-preserved : goal.loop-preserved
loop-preserved c =
    let before = c.loop.invariant in let e = c.give_first.ensures in let few = before.3 in let fewer = e.same in (
      e.of,
      still-on _ _ _ before.1 e.still,
      since-on _ _ _ before.2 e.since,
      omega arith,
      e.most ∙ before.4,
    )

-- the depot refused
pub returns-in-Err-clause-since : goal.returns-in-Err-clause-since
returns-in-Err-clause-since c = since-on _ _ _ c.loop.invariant.2 c.give_first.ensures.since
