use Rattle.std.proofs.Common.{◌+◌, [], take, get_or}
use Rattle.commons.specs.Bag.{bag}
use Rattle.commons.specs.Packets.{no_seg, holds_of_packet, holds_of_seg}
use Rattle.commons.proofs.Bags.{bag-nil}
use Rattle.pool_model.specs.Guests.{local_packet, local_seg}
use Rattle.snapshot.proofs.LocalHolds.{packet-more}
use Rattle.snapshot.proofs.Gathered.{gathered-none, gathered-then}
use Rattle.snapshot.proofs.elements.in_packet.Goals as goal

-- no segment was looked at yet
pub loop-seg-init : goal.loop-seg-init
loop-seg-init c = gathered-none c.args.population (bag []) c.args.named.now.items bag-nil

-- one segment more was looked at
pub loop-seg-preserved : goal.loop-seg-preserved
loop-seg-preserved c =
    let segs = c.args.segs.now in
    let k = c.loop-seg.seg-index in
    let foreign = c.args.foreign in
    let found = rw c.local.ensures at c.in_ok-in_seg.ensures in
    gathered-then c.args.population (bag (holds_of_packet (local_packet foreign (take k segs))))
    (bag (holds_of_seg (local_seg foreign (get_or segs k no_seg))))
    (bag (holds_of_packet (local_packet foreign (take (k + 1) segs)))) _ _ _ c.loop-seg.invariant found
    (λ i. packet-more foreign segs k i no_seg c.loop-seg-test.true)
