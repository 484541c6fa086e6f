use Rattle.std.proofs.Common.{sym}
use Rattle.book.proofs.Shares.{place_more, taken_more}
use Rattle.book.proofs.copies.desks.Goals as goal

-- one desk more, with a packet or without
pub loop-place-preserved : goal.loop-place-preserved
loop-place-preserved c = (
  rw (c.in_ok-push.ensures.items, c.in_ok-desk.ensures.same, c.loop-place.invariant.0)
      (sym (taken_more c.args.places.now c.loop-place.place-index c.place-item.result c.loop-place-test.true c.place-item.is)),
  rw c.in_ok-push.ensures.items (place_more _ _ c.loop-place.invariant.1 c.in_ok-desk.ensures.packet),
)
