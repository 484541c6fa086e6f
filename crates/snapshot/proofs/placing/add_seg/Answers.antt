use Rattle.std.proofs.Common.{arith, sym}
use Rattle.std.proofs.lemmas.Result.{IfOk-weaker}
use Rattle.commons.specs.Bag.{bag, one}
use Rattle.commons.specs.Packets.{hold_of, holds_of_seg}
use Rattle.commons.proofs.Bags.{one-same}
use Rattle.commons.proofs.PacketBags.{bag-seg}
use Rattle.snapshot.proofs.AddedHolders.{added-times, elem_below}
use Rattle.snapshot.proofs.placing.add_seg.Goals as goal

-- the base is below the population where all that the segment holds is
pub add_base-requires : goal.add_base-requires
add_base-requires c = λ i h. omega (arith, c.requires i h, bag-seg c.args.seg i)

-- so is the own element
pub add_hold-requires : goal.add_hold-requires
add_hold-requires c =
    let seg = c.args.seg in
    elem_below _ seg.elem (holds_of_seg seg) (omega (arith, bag-seg seg seg.elem, one-same seg.elem))
    (λ i h. c.requires i (omega (arith, c.in_ok-add_base.ensures.len)))

-- the base first, and then the own element
pub returns : goal.returns
returns c =
    let seg = c.args.seg in
    IfOk-weaker _ _ _
    (λ _ added. added-times c.args.holder (bag (hold_of seg.base)) (one seg.elem)
    (bag (holds_of_seg seg)) _ _ _ c.in_ok-add_base.ensures added (λ i. sym (bag-seg seg i)))
    c.add_hold.ensures
