use Rattle.std.proofs.Common.{◌<◌, rules}
use Rattle.commons.specs.Bag.{bag}
use Rattle.ground.proofs.Calls.{of_view, sits, allowed, count_placed}
use Rattle.ground.proofs.Tallies.{resets, zero_inside}
use Rattle.ground.proofs.pool.Ground.reset.Goals as goal

-- the word is one of the table, and the store keeps the rule
pub store-requires : goal.store-requires
store-requires c =
    let inside = zero_inside _ _ c.args.element c.owned.ensures c.requires.zero in
    let placed =
    count_placed c.self.invariant c.self.view_is c.requires.of inside c.count_word-word.ensures in
    let has = of_view c.seat.view_is (λ v. 0 < bag v.zeros c.args.element) c.requires.zero in (
      search rules,
      placed.within,
      allowed (resets _ _ _ _ c.args.element _ placed.at placed.below has (sits c.seat.invariant)),
    )
