use Rattle.std.proofs.Common.{ℕ, replicate, ap, arith}
use Rattle.commons.proofs.Bags.{bag-nil}
use Rattle.snapshot.proofs.AddedHolders.{added-elem, added-none, elem_below}
use Rattle.snapshot.proofs.Meetings.{element-below}
use Rattle.snapshot.proofs.placing.add_all.Goals as goal

-- no element was noted yet
pub loop-elem-init : goal.loop-elem-init
loop-elem-init c = added-none _ _ (λ i. ap (λ (n : ℕ). replicate n c.args.holder) (bag-nil i))

-- each stands in the list
pub add_hold-requires : goal.add_hold-requires
add_hold-requires c =
    element-below c.args.elems.now c.loop-elem.elem-index _ c.loop-elem-test.true
    (λ e some. elem_below _ e c.args.elems.now some (λ i h. c.requires i (omega (arith, c.loop-elem.invariant.len))))

-- one element more was noted
pub loop-elem-preserved : goal.loop-elem-preserved
loop-elem-preserved c =
    added-elem c.args.holder c.args.elems.now c.loop-elem.elem-index _ _ _ c.loop-elem-test.true
    c.loop-elem.invariant c.in_ok-add_hold.ensures
