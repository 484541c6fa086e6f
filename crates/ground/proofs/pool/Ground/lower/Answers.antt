use Rattle.std.proofs.Common.{◌<◌, rules}
use Rattle.commons.specs.Bag.{bag}
use Rattle.ground.proofs.Calls.{of_view, sits, allowed, count_placed}
use Rattle.ground.proofs.Tallies.{lowers, held_inside}
use Rattle.ground.proofs.pool.Ground.lower.Goals as goal

-- the word is one of the table, and the subtraction keeps the rule
pub fetch_sub-requires : goal.fetch_sub-requires
fetch_sub-requires c =
    let inside = held_inside _ _ c.args.element c.owned.ensures c.requires.held in
    let placed =
    count_placed c.self.invariant c.self.view_is c.requires.of inside c.count_word-word.ensures in
    let has = of_view c.seat.view_is (λ v. 0 < bag v.holds c.args.element) c.requires.held in (
      search rules,
      placed.within,
      allowed (lowers _ _ _ _ c.args.element _ placed.at placed.below has (sits c.seat.invariant)),
    )
