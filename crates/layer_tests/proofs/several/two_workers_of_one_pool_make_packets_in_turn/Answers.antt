use Rattle.layer_tests.proofs.NewSites.{new_hand, new_holds, new_own}
use Rattle.layer_tests.proofs.several.two_workers_of_one_pool_make_packets_in_turn.Goals as goal

-- at a new site the first worker has nothing, and neither have its new packets
pub with_second-told-requires-clause-first : goal.with_second-told-requires-clause-first
with_second-told-requires-clause-first g c =
    new_own c.in_ok-site.site _ 1 c.in_ok-first.first c.in_ok-site.ensures.ok
    c.in_ok-first.ensures.ok

pub with_second-told-requires-clause-hand : goal.with_second-told-requires-clause-hand
with_second-told-requires-clause-hand g c = λ i. new_hand c.in_ok-site.site _ 2 i c.in_ok-site.ensures.ok

pub with_second-told-requires-clause-holds : goal.with_second-told-requires-clause-holds
with_second-told-requires-clause-holds g c = λ i. new_holds c.in_ok-site.site _ 2 i c.in_ok-site.ensures.ok
