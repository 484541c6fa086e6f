use Rattle.commons.specs.Lists.{side_of}
use Rattle.layer_tests.specs.OwnAtSite.{OwnAtSite}
use Rattle.mbuf.proofs.OwnLemmas.{own_new}
use Rattle.layer_tests.proofs.packets.turn.Goals as goal

-- a new worker's packets are its own
pub all_said-taken-requires : goal.all_said-taken-requires
all_said-taken-requires g c =
    let s = c.args.site.now in
    let w = c.args.number in
    let own : OwnAtSite c.in_ok-packets.packets c.new-c.result =
    rw (c.in_ok-packets.ensures.ok, c.limits.ensures.limits, c.new-c.ensures.now, c.new-c.ensures.worker)
    (own_new (side_of s w) w c.requires.hand c.requires.holds) in
    record { own = own }
