use Rattle.std.proofs.Common.{◌<◌, rules}
use Rattle.commons.specs.Bag.{bag}
use Rattle.ground.proofs.Calls.{of_view, sits, allowed, count_placed}
use Rattle.ground.proofs.Stepping.{hand_inside}
use Rattle.ground.proofs.Tallies.{claims}
use Rattle.ground.proofs.pool.Ground.claim.Goals as goal

-- the word is one of the table, and the load keeps the rule
pub load-requires : goal.load-requires
load-requires c =
    let inside = hand_inside _ _ c.args.element c.owned.ensures c.requires.hand in
    let placed =
    count_placed c.self.invariant c.self.view_is c.requires.of inside c.count_word.ensures in
    let has = of_view c.seat.view_is (λ v. 0 < bag v.hand c.args.element) c.requires.hand in (
      search rules,
      placed.within,
      allowed (claims _ _ _ _ c.args.element _ placed.at placed.below has (sits c.seat.invariant)),
    )
