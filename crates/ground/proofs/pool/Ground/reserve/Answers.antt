use Rattle.std.proofs.Common.{rules}
use Rattle.ground.specs.Seats.{KnowsLength}
use Rattle.ground.proofs.Calls.{sits, allowed, known_won, known_lost}
use Rattle.ground.proofs.Stepping.{reserves}
use Rattle.ground.proofs.pool.Ground.reserve.Goals.{then-found-old, else-found-old}
use Rattle.ground.proofs.pool.Ground.reserve.Goals as goal

-- the exchange keeps the rule
pub compare_exchange-found-requires : goal.compare_exchange-found-requires
compare_exchange-found-requires c = (
  search rules,
  search rules,
  allowed (reserves _ _ _ _ _ _ (search rules) (sits c.seat.invariant)),
)

-- what was found is known, and where the exchange won it is what was expected
pub returns-clause-known : goal.returns-clause-known
returns-clause-known c =
    let n = c.args.seat.now.known in
    let known : KnowsLength n c.compare_exchange-found.result = search rules in
    elim c.if-found-old.branch [
      | then-found-old w ↦ known_won (KnowsLength n) _ w.result-is w.if-found-old.true known
      | else-found-old w ↦ known_lost (KnowsLength n) _ w.result-is known
    ]
