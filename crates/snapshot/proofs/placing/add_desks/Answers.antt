use Rattle.std.proofs.Common.{refl, arith}
use Rattle.snapshot.proofs.AddedHolders.{slot_unheld, noted-full, noted-empty, noted-all}
use Rattle.snapshot.proofs.placing.add_desks.Goals as goal
use Rattle.snapshot.proofs.placing.add_desks.Goals.{in-Some+in_ok-add_packet, in_default}

-- no desk was noted yet
pub loop-desk-init : goal.loop-desk-init
loop-desk-init c = record { len = refl; each = λ i. refl }

-- what one desk's packet holds, the desks hold
pub add_packet-requires : goal.add_packet-requires
add_packet-requires c = λ i h.
    slot_unheld c.args.foreign c.args.desks.now c.loop-desk.desk c.index-desks-desk.result c.in-Some.segs
    c.as_slice.result.now i c.loop-desk-test.true c.index-desks-desk.is c.in-Some.is
    c.as_slice.ensures
    (c.requires.known i (omega (arith, c.loop-desk.invariant.len)))

-- one desk more was noted
pub loop-desk-preserved : goal.loop-desk-preserved
loop-desk-preserved c =
    let desks = c.args.desks.now in
    let k = c.loop-desk.desk in
    elim c.match-place.branch [
      | in-Some+in_ok-add_packet w ↦
          rw w.table-is (noted-full c.args.foreign desks k c.index-desks-desk.result w.in-Some.segs
          w.as_slice.result.now _ _ _ c.loop-desk-test.true c.index-desks-desk.is w.in-Some.is
          w.as_slice.ensures c.loop-desk.invariant w.in_ok-add_packet.ensures)
      | in_default w ↦
          rw w.table-is (noted-empty c.args.foreign desks k c.index-desks-desk.result _ _ c.loop-desk-test.true
          c.index-desks-desk.is w.in_default.is c.loop-desk.invariant)
    ]

-- all desks were noted
pub returns : goal.returns
returns c =
    noted-all c.args.foreign c.args.desks.now c.loop-desk.desk _ _ c.loop-desk-test.false c.loop-desk.invariant
