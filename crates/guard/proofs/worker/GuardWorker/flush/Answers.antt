use Rattle.std.proofs.Common.{◌≡◌, ◌+◌, ◌∙◌, length, arith}
use Rattle.depot.specs.Answers.{contents}
use Rattle.depot.proofs.Turns.{stock-contents}
use Rattle.guard.proofs.Since.{still-none, since-none, still-on, since-on, refused-at, refused-on}
use Rattle.guard.proofs.worker.GuardWorker.flush.Goals as goal

pub loop-init : goal.loop-init
loop-init c = (c.requires.of, still-none _, since-none _, omega arith)

-- one more was given
pub loop-preserved : goal.loop-preserved
loop-preserved c =
    let before = c.loop.invariant in let e = c.give_first.ensures in let few = before.3 in
    let fewer = c.in_default.ensures.less in let test = c.loop-test.true in (
      e.of,
      still-on _ _ _ before.1 e.still,
      since-on _ _ _ before.2 e.since,
      omega arith,
    )

-- the depot refused
pub returns-in-Err-clause-since : goal.returns-in-Err-clause-since
returns-in-Err-clause-since c = since-on _ _ _ c.loop.invariant.2 c.give_first.ensures.since

pub returns-in-Err-clause-cause : goal.returns-in-Err-clause-cause
returns-in-Err-clause-cause c = refused-on _ _ _ _ _ c.loop.invariant.2.later c.in-Err.ensures.cause

pub returns-in-Err-flush-clause-cause : goal.returns-in-Err-flush-clause-cause
returns-in-Err-flush-clause-cause c =
    refused-on _ _ _ _ _ c.loop.invariant.2.later (refused-at _ _ _ _ c.in-Err-flush.ensures.cause)

-- nothing is left
pub returns-in-Ok-clause-empty : goal.returns-in-Ok-clause-empty
returns-in-Ok-clause-empty c =
    let few = c.loop.invariant.3 in let test = c.loop-test.false in
    let none = stock-contents c.flush.new.self.seat.me.1 ∙ c.in-Ok.ensures.empty in
    let goal : length c.loop.self.kept.items + length (contents c.flush.new.self.seat.me.1) ≡ 0 = omega arith in goal
