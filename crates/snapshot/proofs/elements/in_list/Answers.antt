use Rattle.std.proofs.Common.{◌+◌, [], take, get_or}
use Rattle.commons.specs.Bag.{bag, one}
use Rattle.commons.proofs.Bags.{bag-nil}
use Rattle.snapshot.proofs.Gathered.{gathered-none, gathered-then}
use Rattle.snapshot.proofs.Meetings.{bag-suc}
use Rattle.snapshot.proofs.elements.in_list.Goals as goal

-- no element was looked at yet
pub loop-elem-init : goal.loop-elem-init
loop-elem-init c = gathered-none c.args.population (bag []) c.args.named.now.items bag-nil

-- one element more was looked at
pub loop-elem-preserved : goal.loop-elem-preserved
loop-elem-preserved c =
    let elems = c.args.elems.now in
    let k = c.loop-elem.elem-index in
    gathered-then c.args.population (bag (take k elems)) (one (get_or elems k 0)) (bag (take (k + 1) elems)) _ _ _
    c.loop-elem.invariant c.in_ok-gather.ensures
    (λ i. bag-suc elems k i c.loop-elem-test.true)
