use Rattle.std.proofs.Common.{sym}
use Rattle.book.proofs.Shares.{none_more, packets_more, share_more}
use Rattle.book.proofs.copies.shares.Goals as goal
use Rattle.book.proofs.copies.shares.Goals.{in-Some+in_ok-share_data+in_ok-push, in_default}

-- one place more, with a share or without
pub loop-place-preserved : goal.loop-place-preserved
loop-place-preserved c =
    let places = c.args.places.now in
    let k = c.loop-place.place-index in
    let place = c.place-item.result in
    elim c.match-place.branch [
      | in-Some+in_ok-share_data+in_ok-push w ↦ (
        rw (w.shares-is, w.in_ok-push.ensures.items, w.in_ok-share_data.ensures.same, w.packets.ensures, c.loop-place.invariant.0)
            (sym (share_more places k place w.in-Some.share c.loop-place-test.true c.place-item.is w.in-Some.is)),
        rw (w.shares-is, w.in_ok-push.ensures.items)
            (packets_more _ _ c.loop-place.invariant.1 w.in_ok-share_data.ensures.packets),
      )
      | in_default w ↦ (
        rw (w.shares-is, c.loop-place.invariant.0) (sym (none_more places k place c.loop-place-test.true c.place-item.is w.in_default.is)),
        rw w.shares-is c.loop-place.invariant.1,
      )
    ]
