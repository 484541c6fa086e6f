use Rattle.std.proofs.Common.{[], ◌∷◌, Option, Some, sym, refl, subst}
use Rattle.mbufpool_c.specs.Pools.{GetsIn, Pooled}
use Rattle.mbufpool_c.proofs.pool.get_one_apart.Goals as goal

-- the handle lent its worker, which got or was refused
pub returns-clause-called : goal.returns-clause-called
returns-clause-called c =
    let own = c.lend.ensures in
    let did = c.get_one-answer.ensures in
    subst
    (λ (v : Option Pooled). GetsIn (c.get_one-answer.new.out ∷ []) v c.args.pool.now.loans c.status_of.result
    (Some c.get_one-answer.new.self) c.get_one-answer.new.loans) (sym own.value)
    (c.get_one-answer.result, c.get_one-answer.new.self, refl, c.status_of.ensures, did.same, did.once, did.got, did.count, did.all)
