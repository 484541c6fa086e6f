use Rattle.commons.specs.Lists.{side_of}
use Rattle.mbuf.specs.Twins.{OwnTwin}
use Rattle.layer_tests.proofs.NewSites.{new_own_twin}
use Rattle.layer_tests.proofs.twins.play.Goals as goal

-- a new worker of two new pools is its own in both
pub all_said-taken-requires : goal.all_said-taken-requires
all_said-taken-requires g c =
    let row = c.args.row.now in
    let own : OwnTwin c.in_ok-twin.twin (side_of c.new-c.result.site.now c.new-c.result.worker)
    (side_of c.new-d.result.site.now c.new-d.result.worker) =
    rw (c.new-c.ensures.now, c.new-c.ensures.worker, c.new-d.ensures.now, c.new-d.ensures.worker)
    (new_own_twin c.in_ok-first.first c.in_ok-second.second row.first row.second 1 c.in_ok-twin.twin
    c.in_ok-first.ensures.ok c.in_ok-second.ensures.ok c.in_ok-twin.ensures.first c.in_ok-twin.ensures.second) in
    record { own = own }
