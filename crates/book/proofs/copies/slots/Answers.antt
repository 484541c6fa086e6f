use Rattle.std.proofs.Common.{None, sym, arith, ◌<◌, length}
use Rattle.std.proofs.lemmas.List.{take_more}
use Rattle.book.proofs.Shares.{place_more}
use Rattle.book.proofs.copies.slots.Goals as goal

-- one slot more, with a packet or without
pub loop-number-preserved : goal.loop-number-preserved
loop-number-preserved c =
    let table = c.args.packets.now.table in
    let k = c.loop-number.number in
    let below : k < length table = omega (arith, c.has_slots.ensures, c.loop-number-test.true) in (
      rw (c.in_ok-push.ensures.items, c.in_ok-slot.ensures.same, c.loop-number.invariant.0) (sym (take_more table k None below)),
      rw c.in_ok-push.ensures.items (place_more _ _ c.loop-number.invariant.1 c.in_ok-slot.ensures.packet),
    )
