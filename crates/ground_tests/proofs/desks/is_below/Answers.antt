use Rattle.std.proofs.Common.{◌<◌, subst, ℕ}
use Rattle.std.proofs.lemmas.Bool.{ltb-true}
use Rattle.ground_tests.proofs.Segs.{direct_below, indirect_below}
use Rattle.ground_tests.proofs.desks.is_below.Goals as goal

-- a direct segment holds its own element
pub returns-in-None : goal.returns-in-None
returns-in-None c = λ h i some.
    direct_below c.args.seg c.args.population c.in-None.is
    (subst (λ (e : ℕ). e < c.args.population) c.from.ensures (ltb-true c.from.result c.args.population h))
    i some

-- an indirect one its base besides
pub returns-then-from-population : goal.returns-then-from-population
returns-then-from-population c = λ h i some.
    indirect_below c.args.seg c.in-Some.base c.args.population c.in-Some.is
    (subst (λ (e : ℕ). e < c.args.population) c.from-in-Some.ensures c.if-from-population.true)
    (subst (λ (e : ℕ). e < c.args.population) c.from-then-from-population.ensures
    (ltb-true c.from-then-from-population.result c.args.population h))
    i some
