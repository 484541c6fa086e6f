use Rattle.std.proofs.Common.{ℕ, ◌≤◌, ◌<◌, ◌++◌, ◌∙◌, ap, sym, length, take, None, Vec, arith}
use Rattle.std.specs.Prelude.{flat_map}
use Rattle.std.specs.declared.alloc.Global.{Global}
use Rattle.std.proofs.lemmas.List.{append-nil, take_all}
use Rattle.pool_model.specs.Guests.{guests_in_slot}
use Rattle.pool_statement.specs.declared.guest.Guest.{Guest}
use Rattle.book.proofs.Shares.{slot_guests_more}
use Rattle.book.proofs.guests.add_guests.Goals as goal
use Rattle.book.proofs.guests.add_guests.Goals.{in-Some+in_ok-add_bases, in_default}

-- how many guests there are
abbrev many : Vec Guest Global → ℕ
many guests = length guests.items

-- one slot more, with a packet or without
pub loop-number-preserved : goal.loop-number-preserved
loop-number-preserved c =
    let first = c.args.guests.now.items in
    let table = c.args.packets.now.table in
    let worker = c.worker-worker.result in
    let k = c.loop-number.number in
    let so_far = c.loop-number.invariant in
    let below : k < length table = omega (arith, c.has_slots.ensures, c.loop-number-test.true) in
    elim c.match-place.branch [
      | in-Some+in_ok-add_bases w ↦ record {
        more =
            rw (w.guests-is, w.in_ok-add_bases.ensures.more, w.segs.ensures.segs, so_far.more)
            (slot_guests_more first worker table k _ below w.in-Some.ensures);
        few = omega (arith, ap many w.guests-is, w.in_ok-add_bases.ensures.few, so_far.few);
      }
      | in_default w ↦ record {
        more =
            rw (w.guests-is, so_far.more)
            (sym (append-nil (first ++ flat_map (guests_in_slot worker) (take k table)))
            ∙ slot_guests_more first worker table k None below w.in_default.ensures);
        few = omega (arith, ap many w.guests-is, so_far.few);
      }
    ]

-- all slots
pub returns-clause-more : goal.returns-clause-more
returns-clause-more c =
    let table = c.args.packets.now.table in
    let all : length table ≤ c.loop-number.number = omega (arith, c.has_slots.ensures, c.loop-number-test.false) in
    rw (c.loop-number.invariant.more, take_all _ _ all)
    (ap (λ n. c.args.guests.now.items ++ flat_map (guests_in_slot n) table) c.worker-worker.ensures)
