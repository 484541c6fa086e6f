use Rattle.snapshot.proofs.Gathered.{gathered-one}
use Rattle.snapshot.proofs.elements.gather.Goals as goal

-- one that isn't below the population is
pub returns-in_ok-push : goal.returns-in_ok-push
returns-in_ok-push c =
    rw c.in_ok-push.ensures.items (gathered-one c.args.population c.args.named.now.items c.args.elem
    (rw c.from.ensures at c.if-population-from.true))
