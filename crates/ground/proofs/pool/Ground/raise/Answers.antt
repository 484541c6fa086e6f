use Rattle.std.proofs.Common.{◌<◌, ap, rules, arith}
use Rattle.commons.specs.Bag.{bag}
use Rattle.commons.specs.declared.limits.Limits.{Limits}
use Rattle.ground.specs.Seats.{KnowsCount}
use Rattle.ground.proofs.Calls.{of_view, sits, allowed, key_is, count_placed, known_won, known_lost}
use Rattle.ground.proofs.Tallies.{raises, held_inside}
use Rattle.ground.proofs.pool.Ground.raise.Goals.{then-found-old, else-found-old}
use Rattle.ground.proofs.pool.Ground.raise.Goals as goal

-- the word is one of the table, and the exchange keeps the rule
pub compare_exchange-found-requires : goal.compare_exchange-found-requires
compare_exchange-found-requires c =
    let inside = held_inside _ _ c.args.element c.owned.ensures c.requires.held in
    let placed =
    count_placed c.self.invariant c.self.view_is c.requires.of inside c.count_word-word.ensures in
    let has = of_view c.seat.view_is (λ v. 0 < bag v.holds c.args.element) c.requires.held in
    let limit = ap (λ (z : Limits). z.ref_limit) (key_is c.self.invariant c.self.view_is) in
    let low = c.requires.limited in (
      search rules,
      placed.within,
      allowed (raises _ _ _ _ c.args.element _ c.args.old _ placed.at placed.below has (omega arith)
          (search rules) (sits c.seat.invariant)),
    )

-- what was found is known, and where the exchange won it is what was expected
pub returns-clause-known : goal.returns-clause-known
returns-clause-known c =
    let n = c.args.seat.now.known in
    let i = c.args.element in
    let known : KnowsCount n i c.compare_exchange-found.result = search rules in
    elim c.if-found-old.branch [
      | then-found-old w ↦ known_won (KnowsCount n i) _ w.result-is w.if-found-old.true known
      | else-found-old w ↦ known_lost (KnowsCount n i) _ w.result-is known
    ]
