use Rattle.commons.specs.Lists.{side_of}
use Rattle.mbuf.specs.Twins.{OwnTwin}
use Rattle.layer_tests.proofs.NewSites.{new_own_twin}
use Rattle.layer_tests.proofs.turns.played.Goals as goal

-- a new worker of two new pools is its own in both
pub freed-order-requires : goal.freed-order-requires
freed-order-requires c =
    let limits = c.args.limits.now in
    let own : OwnTwin c.in_ok-twin.twin (side_of c.new-one.result.site.now c.new-one.result.worker)
    (side_of c.new-two.result.site.now c.new-two.result.worker) =
    rw (c.new-one.ensures.now, c.new-one.ensures.worker, c.new-two.ensures.now, c.new-two.ensures.worker)
    (new_own_twin c.in_ok-first.first c.in_ok-second.second limits limits 1 c.in_ok-twin.twin
    c.in_ok-first.ensures.ok c.in_ok-second.ensures.ok c.in_ok-twin.ensures.first c.in_ok-twin.ensures.second) in
    own
