use Rattle.std.proofs.lemmas.Grind.{take_at_read}
use Rattle.guard.proofs.Bulk.{some-none, some-more, back-none, back-more}
use Rattle.guard.proofs.Since.{since-none, since-on}
use Rattle.guard.proofs.worker.GuardWorker.put_back.Goals as goal

pub loop-k-init : goal.loop-k-init
loop-k-init c = (c.requires.of, some-none _, since-none _, back-none _ _)

-- one more is put, or refused
pub loop-k-preserved : goal.loop-k-preserved
loop-k-preserved c =
    let before = c.loop-k.invariant in (
      c.put_one.ensures.of,
      some-more _ _ _ c.put_one.result _ _ _ (take_at_read c.args.list.now c.loop-k.k 0 c.loop-k-test.true).1 before.1
          c.put_one.ensures.put c.put_one.ensures.still,
      since-on _ _ _ before.2 c.put_one.ensures.since,
      back-more _ _ _ _ c.put_one.result _ _ _ (take_at_read c.args.list.now c.loop-k.k 0 c.loop-k-test.true).1 before.3
          before.2.later c.put_one.ensures.since.later c.put_one.ensures.put c.put_one.ensures.still c.put_one.ensures.not,
    )
