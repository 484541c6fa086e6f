use Rattle.std.proofs.Common.{arith}
use Rattle.commons.specs.Lists.{side_of}
use Rattle.mbuf.specs.Own.{Own, no_guests}
use Rattle.mbuf.proofs.OwnLemmas.{own_new}
use Rattle.layer_tests.proofs.several.with_second.Goals as goal

-- a new worker's packets are its own where it has nothing, and the first one's call left it that
pub made_at-other-requires-clause-own : goal.made_at-other-requires-clause-own
made_at-other-requires-clause-own c =
    let own : Own c.in_ok-second.second (side_of c.args.site.now 2) =
    rw (c.in_ok-second.ensures.ok, c.limits.ensures.limits)
    (own_new (side_of c.args.site.now 2) 2 c.requires.hand c.requires.holds) in
    c.packets_stay_own.ensures no_guests c.in_ok-second.second (side_of c.args.site.now 2)
    (side_of c.made_at-one.new.site 2) own
    (c.made_at-one.ensures.sides.others 2 (omega arith) (λ e. omega (arith, e)))

-- and the second one's call left the first what it has
pub byte_of-requires-clause-own : goal.byte_of-requires-clause-own
byte_of-requires-clause-own c =
    let own : Own c.made_at-one.new.packets (side_of c.made_at-other.new.site 1) =
    c.packets_stay_own.ensures no_guests c.made_at-one.new.packets (side_of c.made_at-one.new.site 1)
    (side_of c.made_at-other.new.site 1) c.made_at-one.ensures.own
    (c.made_at-other.ensures.sides.others 1 (omega arith) (λ e. omega (arith, e))) in
    rw (c.new-c.ensures.now, c.new-c.ensures.worker) own
