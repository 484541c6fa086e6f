use Rattle.std.proofs.Common.{◌<◌, true, false, rules}
use Rattle.commons.specs.Bag.{bag}
use Rattle.ground.proofs.Calls.{of_view, sits, allowed, count_placed}
use Rattle.ground.proofs.Tallies.{soles, held_inside}
use Rattle.ground.proofs.pool.Ground.sole.Goals as goal

-- the word is one of the table, and the load that may end the hold keeps the rule
pub load-requires : goal.load-requires
load-requires c =
    let inside = held_inside _ _ c.args.element c.owned.ensures c.requires.held in
    let placed =
    count_placed c.self.invariant c.self.view_is c.requires.of inside c.count_word-word.ensures in
    let has = of_view c.seat.view_is (λ v. 0 < bag v.holds c.args.element) c.requires.held in (
      search rules,
      placed.within,
      allowed (soles _ _ _ _ true c.args.element _ placed.at placed.below has
          (sits c.seat.invariant)),
    )

-- the word is one of the table, and the load that ends no hold keeps the rule
pub load-requires-else-free : goal.load-requires-else-free
load-requires-else-free c =
    let inside = held_inside _ _ c.args.element c.owned.ensures c.requires.held in
    let placed =
    count_placed c.self.invariant c.self.view_is c.requires.of inside c.count_word-word.ensures in
    let has = of_view c.seat.view_is (λ v. 0 < bag v.holds c.args.element) c.requires.held in (
      search rules,
      placed.within,
      allowed (soles _ _ _ _ false c.args.element _ placed.at placed.below has
          (sits c.seat.invariant)),
    )
