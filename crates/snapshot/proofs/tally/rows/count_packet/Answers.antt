use Rattle.std.proofs.Common.{◌+◌, [], take, get_or, arith}
use Rattle.commons.specs.Bag.{bag, one}
use Rattle.commons.specs.Packets.{no_seg, holds_of_packet, holds_of_seg, own_of_packet}
use Rattle.commons.proofs.Bags.{bag-nil}
use Rattle.pool_model.specs.Guests.{local_packet, local_seg}
use Rattle.snapshot.proofs.LocalHolds.{packet-more}
use Rattle.snapshot.proofs.Meetings.{met-none, met-then, own-suc}
use Rattle.snapshot.proofs.tally.rows.count_packet.Goals as goal

-- no segment was counted yet
pub loop-seg-init : goal.loop-seg-init
loop-seg-init c = record {
  own = met-none (bag []) c.args.own.now.items (λ i l. omega (arith, c.type_inv.own i 0 l)) bag-nil;
  held = met-none (bag []) c.args.held.now.items (λ i l. omega (arith, c.type_inv.held i 0 l)) bag-nil;
}

-- one segment more was counted
pub loop-seg-preserved : goal.loop-seg-preserved
loop-seg-preserved c =
    let segs = c.args.segs.now in
    let k = c.loop-seg.seg-index in
    let foreign = c.args.foreign in
    let seg = get_or segs k no_seg in
    let counted = rw c.local.ensures at c.count_seg.ensures in
    record {
      own = met-then (bag (own_of_packet (take k segs))) (one seg.elem)
          (bag (own_of_packet (take (k + 1) segs))) _ _ _ c.loop-seg.invariant.own c.count.ensures
          (λ i. own-suc segs k i no_seg c.loop-seg-test.true);
      held = met-then (bag (holds_of_packet (local_packet foreign (take k segs))))
          (bag (holds_of_seg (local_seg foreign seg)))
          (bag (holds_of_packet (local_packet foreign (take (k + 1) segs)))) _ _ _ c.loop-seg.invariant.held counted
          (λ i. packet-more foreign segs k i no_seg c.loop-seg-test.true);
    }
