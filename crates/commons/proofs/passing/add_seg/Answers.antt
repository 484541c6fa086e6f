use Rattle.std.proofs.Common.{arith}
use Rattle.commons.proofs.Bags.{one-same}
use Rattle.commons.proofs.PacketBags.{bag-seg}
use Rattle.commons.proofs.passing.add_seg.Goals as goal

pub add_base-requires-clause-below : goal.add_base-requires-clause-below
add_base-requires-clause-below c = λ i h. c.requires.below i (omega (arith, h, bag-seg c.args.seg i))

pub add_base-requires-clause-few : goal.add_base-requires-clause-few
add_base-requires-clause-few c = λ i. omega (arith, c.requires.few i, bag-seg c.args.seg i)

-- the segment holds its own element, so that is in the row, whose length the base left as it was
pub add_hold-requires-clause-below : goal.add_hold-requires-clause-below
add_hold-requires-clause-below c =
    let e = c.args.seg.elem in
    omega (arith, c.requires.below e (omega (arith, bag-seg c.args.seg e, one-same e)), c.add_base.ensures.len)

-- the base's hold is added already, and the bound was for base and element together
pub add_hold-requires-clause-few : goal.add_hold-requires-clause-few
add_hold-requires-clause-few c =
    let e = c.args.seg.elem in
    omega (arith, c.requires.few e, c.add_base.ensures.holds e, bag-seg c.args.seg e, one-same e)

-- the holds of a segment are its base's and its own element's, and the row got both
pub returns-clause-holds : goal.returns-clause-holds
returns-clause-holds c =
    λ i. omega (arith, c.add_hold.ensures.holds i, c.add_base.ensures.holds i, bag-seg c.args.seg i)
