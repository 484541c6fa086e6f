use Rattle.std.proofs.Common.{◌+◌, ◌∙◌, arith, refl}
use Rattle.commons.specs.Packets.{no_seg}
use Rattle.commons.proofs.Bags.{bag-nil}
use Rattle.commons.proofs.PacketBags.{bag-holds_suc, holds_so_far}
use Rattle.commons.proofs.passing.add_holds.Goals as goal

pub loop-seg-init : goal.loop-seg-init
loop-seg-init c = record { holds = λ i. omega (arith, bag-nil i); len = refl }

-- what the next segment holds is part of what the packet holds, so it is within the row
pub add_seg-requires-clause-below : goal.add_seg-requires-clause-below
add_seg-requires-clause-below c = λ i h.
    let k = c.loop-seg.seg-index in
    let segs = c.args.segs.now in
    omega (
      arith,
      c.requires.below i (omega (
        arith,
        h,
        bag-holds_suc segs k i no_seg c.loop-seg-test.true,
        holds_so_far segs (k + 1) i,
      )),
      c.loop-seg.invariant.len,
    )

-- holds added so far and the next segment's are at most the whole packet's, which fit
pub add_seg-requires-clause-few : goal.add_seg-requires-clause-few
add_seg-requires-clause-few c = λ i.
    let k = c.loop-seg.seg-index in
    let segs = c.args.segs.now in
    omega (
      arith,
      c.requires.few i,
      c.loop-seg.invariant.holds i,
      bag-holds_suc segs k i no_seg c.loop-seg-test.true,
      holds_so_far segs (k + 1) i,
    )

-- the holds of one segment more are those of the segments so far and its own; no row gets longer
pub loop-seg-preserved : goal.loop-seg-preserved
loop-seg-preserved c = record {
  holds =
      λ i.
      omega (
        arith,
        c.add_seg.ensures.holds i,
        c.loop-seg.invariant.holds i,
        bag-holds_suc c.args.segs.now c.loop-seg.seg-index i no_seg c.loop-seg-test.true,
      );
  len = c.add_seg.ensures.len ∙ c.loop-seg.invariant.len;
}
