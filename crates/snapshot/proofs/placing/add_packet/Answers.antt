use Rattle.std.proofs.Common.{ℕ, ◌+◌, replicate, ap, arith}
use Rattle.commons.specs.Packets.{no_seg}
use Rattle.commons.proofs.Bags.{bag-nil}
use Rattle.snapshot.proofs.AddedHolders.{added-none, added-seg}
use Rattle.snapshot.proofs.LocalHolds.{packet-more, packet-so_far}
use Rattle.snapshot.proofs.placing.add_packet.Goals as goal

-- no segment was noted yet
pub loop-seg-init : goal.loop-seg-init
loop-seg-init c = added-none _ _ (λ i. ap (λ (n : ℕ). replicate n c.args.holder) (bag-nil i))

-- what a segment holds, the packet holds
pub add_seg-requires : goal.add_seg-requires
add_seg-requires c =
    let segs = c.args.segs.now in
    let k = c.loop-seg.seg-index in
    let foreign = c.args.foreign in
    λ i h. rw c.local.ensures (omega (
      arith,
      c.requires i (omega (arith, c.loop-seg.invariant.len)),
      packet-more foreign segs k i no_seg c.loop-seg-test.true,
      packet-so_far foreign segs (k + 1) i,
    ))

-- one segment more was noted
pub loop-seg-preserved : goal.loop-seg-preserved
loop-seg-preserved c =
    added-seg c.args.holder c.args.foreign c.args.segs.now c.loop-seg.seg-index _ _ _ c.loop-seg-test.true
    c.loop-seg.invariant (rw c.local.ensures at c.in_ok-add_seg.ensures)
