use Rattle.std.proofs.Common.{◌<◌, ap, rules, arith}
use Rattle.commons.specs.Bag.{bag}
use Rattle.commons.specs.declared.limits.Limits.{Limits}
use Rattle.ground.proofs.Calls.{of_view, sits, allowed, key_is, link_within}
use Rattle.ground.proofs.Stepping.{stores_link, hand_inside}
use Rattle.ground.proofs.pool.Ground.store_link.Goals as goal

-- the word is one of the table, and the store keeps the rule
pub store-requires : goal.store-requires
store-requires c =
    let at = c.link_word.ensures in
    let inside = hand_inside _ _ c.args.element c.owned.ensures c.requires.hand in
    let has = of_view c.seat.view_is (λ v. 0 < bag v.hand c.args.element) c.requires.hand in
    let population = ap (λ (z : Limits). z.population) (key_is c.self.invariant c.self.view_is) in
    let link = c.requires.link in
    let value = c.from.ensures in (
      search rules,
      link_within c.self.invariant c.self.view_is c.requires.of inside at,
      allowed (stores_link _ _ _ _ c.args.element _ _ at has (omega arith) (sits c.seat.invariant)
          c.seat.invariant.0),
    )
