use Rattle.std.proofs.Common.{arith}
use Rattle.snapshot.proofs.AddedHolders.{slot_unheld, added-full, added-empty}
use Rattle.snapshot.proofs.placing.add_slots.Goals as goal
use Rattle.snapshot.proofs.placing.add_slots.Goals.{in-Some+in_ok-add_packet, in_default}

-- what one slot's packet holds, the slots hold
pub add_packet-requires : goal.add_packet-requires
add_packet-requires c = λ i h.
    slot_unheld c.args.foreign c.args.slots.now c.loop-slot.slot-index c.slot-item.result c.in-Some.segs
    c.as_slice.result.now i c.loop-slot-test.true c.slot-item.is c.in-Some.is c.as_slice.ensures
    (c.requires i (omega (arith, c.loop-slot.invariant.len)))

-- one slot more was noted
pub loop-slot-preserved : goal.loop-slot-preserved
loop-slot-preserved c =
    let slots = c.args.slots.now in
    let k = c.loop-slot.slot-index in
    elim c.match-slot.branch [
      | in-Some+in_ok-add_packet w ↦
          rw w.table-is (added-full c.args.holder c.args.foreign slots k c.slot-item.result w.in-Some.segs
          w.as_slice.result.now _ _ _ c.loop-slot-test.true c.slot-item.is w.in-Some.is
          w.as_slice.ensures c.loop-slot.invariant w.in_ok-add_packet.ensures)
      | in_default w ↦
          rw w.table-is (added-empty c.args.holder c.args.foreign slots k c.slot-item.result _ _
          c.loop-slot-test.true c.slot-item.is w.in_default.is c.loop-slot.invariant)
    ]
