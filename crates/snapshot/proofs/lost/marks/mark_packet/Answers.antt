use Rattle.std.proofs.Common.{◌+◌, [], take, get_or}
use Rattle.commons.specs.Bag.{bag}
use Rattle.commons.specs.Packets.{no_seg, holds_of_packet, holds_of_seg}
use Rattle.commons.proofs.Bags.{bag-nil}
use Rattle.pool_model.specs.Guests.{local_packet, local_seg}
use Rattle.snapshot.proofs.LocalHolds.{packet-more}
use Rattle.snapshot.proofs.Marks.{marked-none, marked-then}
use Rattle.snapshot.proofs.lost.marks.mark_packet.Goals as goal

-- no segment was met yet
pub loop-seg-init : goal.loop-seg-init
loop-seg-init c = marked-none (bag []) c.args.met.now.items bag-nil

-- what one segment more holds is marked
pub loop-seg-preserved : goal.loop-seg-preserved
loop-seg-preserved c =
    let segs = c.args.segs.now in
    let k = c.loop-seg.seg-index in
    let foreign = c.args.foreign in
    let marked = rw c.local.ensures at c.mark_seg.ensures in
    marked-then (bag (holds_of_packet (local_packet foreign (take k segs))))
    (bag (holds_of_seg (local_seg foreign (get_or segs k no_seg))))
    (bag (holds_of_packet (local_packet foreign (take (k + 1) segs)))) _ _ _ c.loop-seg.invariant marked
    (λ i. packet-more foreign segs k i no_seg c.loop-seg-test.true)
