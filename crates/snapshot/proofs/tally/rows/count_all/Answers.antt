use Rattle.std.proofs.Common.{◌+◌, [], take, get_or, arith}
use Rattle.commons.specs.Bag.{bag, one}
use Rattle.commons.proofs.Bags.{bag-nil}
use Rattle.snapshot.proofs.Meetings.{met-none, met-then, bag-suc}
use Rattle.snapshot.proofs.tally.rows.count_all.Goals as goal

-- no element was counted yet
pub loop-elem-init : goal.loop-elem-init
loop-elem-init c = met-none (bag []) c.args.row.now.items (λ i l. omega (arith, c.type_inv.row i 0 l)) bag-nil

-- one element more was counted
pub loop-elem-preserved : goal.loop-elem-preserved
loop-elem-preserved c =
    let elems = c.args.elems.now in
    let k = c.loop-elem.elem-index in
    met-then (bag (take k elems)) (one (get_or elems k 0)) (bag (take (k + 1) elems)) _ _ _
    c.loop-elem.invariant c.count.ensures
    (λ i. bag-suc elems k i c.loop-elem-test.true)
