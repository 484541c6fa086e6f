use Rattle.std.proofs.lemmas.Grind.{take_at_read}
use Rattle.guard.proofs.Bulk.{all-none, all-more, all-still, stops-there, cut-there}
use Rattle.guard.proofs.Since.{since-none, since-on}
use Rattle.guard.proofs.worker.GuardWorker.put.Goals as goal

pub loop-k-init : goal.loop-k-init
loop-k-init c = (c.requires.of, all-none _, since-none _)

-- one more was put
pub loop-k-preserved : goal.loop-k-preserved
loop-k-preserved c =
    let before = c.loop-k.invariant in (
      c.put_one.ensures.of,
      all-more _ _ _ _ _ _ (take_at_read c.args.list.now c.loop-k.k 0 c.loop-k-test.true).1 before.1 c.in_default.ensures.put,
      since-on _ _ _ before.2 c.put_one.ensures.since,
    )

-- this one was refused
pub returns-in-Err-clause-puts : goal.returns-in-Err-clause-puts
returns-in-Err-clause-puts c = all-still _ _ _ _ c.loop-k.invariant.1 c.in-Err.ensures.still

pub returns-in-Err-clause-stops : goal.returns-in-Err-clause-stops
returns-in-Err-clause-stops c =
    stops-there c.args.depot.now _ c.loop-k.self c.put_one.new.self c.args.list.now c.loop-k.k _ _ c.in-Err.why
    c.loop-k-test.true (cut-there c.args.list.now c.loop-k.k c.loop-k-test.true) c.loop-k.invariant.2.later
    c.in-Err.ensures.not

pub returns-in-Err-clause-since : goal.returns-in-Err-clause-since
returns-in-Err-clause-since c = since-on _ _ _ c.loop-k.invariant.2 c.put_one.ensures.since
