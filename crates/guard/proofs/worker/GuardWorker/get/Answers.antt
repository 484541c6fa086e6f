use Rattle.std.proofs.Common.{◌∙◌, refl, arith}
use Rattle.std.proofs.lemmas.List.{take_more_set, length-set}
use Rattle.guard.proofs.Bulk.{gets-none-yet, gets-more, gets-still}
use Rattle.guard.proofs.Since.{since-none, since-on, later-on, refused-on, refused-by}
use Rattle.guard.proofs.worker.GuardWorker.get.Goals as goal

pub loop-k-init : goal.loop-k-init
loop-k-init c = (c.requires.of, gets-none-yet _, since-none _, refl)

-- one more came out
pub loop-k-preserved : goal.loop-k-preserved
loop-k-preserved c =
    let before = c.loop-k.invariant in
    let test = c.loop-k-test.true in
    let same = before.3 in (
      c.get_one.ensures.of,
      gets-more _ _ c.in-Ok.element _ _ _ (take_more_set c.loop-k.out c.loop-k.k c.in-Ok.element (omega arith)) before.1
          c.in-Ok.ensures.got,
      since-on _ _ _ before.2 c.get_one.ensures.since,
      length-set c.loop-k.out c.loop-k.k c.in-Ok.element ∙ before.3,
    )

-- the depot refused, and what had come is put back
pub returns-in-Err-clause-cause : goal.returns-in-Err-clause-cause
returns-in-Err-clause-cause c =
    refused-by _ _ _ _ _ (refused-on _ _ _ _ _ c.loop-k.invariant.2.later c.in-Err.ensures.cause) c.put_back.ensures.since.later

pub returns-in-Err-clause-since : goal.returns-in-Err-clause-since
returns-in-Err-clause-since c =
    since-on _ _ _ c.loop-k.invariant.2 (since-on _ _ _ c.get_one.ensures.since c.put_back.ensures.since)

pub returns-in-Err-clause-back : goal.returns-in-Err-clause-back
returns-in-Err-clause-back c = record {
  xs = _;
  between = c.get_one.new.self;
  gets = gets-still _ _ _ _ c.loop-k.invariant.1 c.in-Err.ensures.still;
  later = later-on _ _ _ c.loop-k.invariant.2.later c.get_one.ensures.since.later;
  back = c.put_back.ensures.back;
}
