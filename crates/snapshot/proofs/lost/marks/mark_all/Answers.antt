use Rattle.std.proofs.Common.{◌+◌, [], take, get_or}
use Rattle.commons.specs.Bag.{bag, one}
use Rattle.commons.proofs.Bags.{bag-nil}
use Rattle.snapshot.proofs.Marks.{marked-none, marked-then}
use Rattle.snapshot.proofs.Meetings.{bag-suc}
use Rattle.snapshot.proofs.lost.marks.mark_all.Goals as goal

-- no element is marked yet
pub loop-elem-init : goal.loop-elem-init
loop-elem-init c = marked-none (bag []) c.args.met.now.items bag-nil

-- one element more is marked
pub loop-elem-preserved : goal.loop-elem-preserved
loop-elem-preserved c =
    let elems = c.args.elems.now in
    let k = c.loop-elem.elem-index in
    marked-then (bag (take k elems)) (one (get_or elems k 0)) (bag (take (k + 1) elems)) _ _ _
    c.loop-elem.invariant c.mark.ensures
    (λ i. bag-suc elems k i c.loop-elem-test.true)
