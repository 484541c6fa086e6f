use Rattle.std.proofs.Common.{ℕ, sym, ap, length, Vec, arith}
use Rattle.std.specs.declared.alloc.Global.{Global}
use Rattle.pool_statement.specs.declared.guest.Guest.{Guest}
use Rattle.book.proofs.Shares.{guests_more, guests_none_more}
use Rattle.book.proofs.guests.guests.Goals as goal
use Rattle.book.proofs.guests.guests.Goals.{in-Some+in_ok-add_guests, in_default}

-- how many guests there are
abbrev many : Vec Guest Global → ℕ
many guests = length guests.items

-- one place more, with a share or without
pub loop-place-preserved : goal.loop-place-preserved
loop-place-preserved c =
    let places = c.args.places.now in
    let k = c.loop-place.place-index in
    let place = c.place-item.result in
    let so_far = c.loop-place.invariant in
    elim c.match-place.branch [
      | in-Some+in_ok-add_guests w ↦ record {
        same =
            rw (w.guests-is, w.in_ok-add_guests.ensures.more, w.packets.ensures, so_far.same)
            (sym (guests_more places k place w.in-Some.share c.loop-place-test.true c.place-item.is w.in-Some.is));
        few = omega (arith, ap many w.guests-is, w.in_ok-add_guests.ensures.few, so_far.few);
      }
      | in_default w ↦ record {
        same =
            rw (w.guests-is, so_far.same)
            (sym (guests_none_more places k place c.loop-place-test.true c.place-item.is w.in_default.is));
        few = omega (arith, ap many w.guests-is, so_far.few);
      }
    ]
