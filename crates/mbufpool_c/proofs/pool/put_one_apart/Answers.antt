use Rattle.std.proofs.Common.{[], ◌∷◌, Option, Some, sym, refl, subst}
use Rattle.mbufpool_c.specs.Pools.{PutsIn, Pooled}
use Rattle.mbufpool_c.proofs.pool.put_one_apart.Goals as goal

-- the handle lent its worker, which put or was refused
pub returns : goal.returns
returns c =
    let own = c.lend.ensures in
    let did = c.put_one-answer.ensures in
    record {
      called = subst
          (λ (v : Option Pooled). PutsIn (c.args.value ∷ []) v c.args.pool.now.loans c.status_of.result
          (Some c.put_one-answer.new.self) c.put_one-answer.new.loans) (sym own.value)
          (c.put_one-answer.result, c.put_one-answer.new.self, refl, c.status_of.ensures, did.same, did.once, did.put, did.count, did.all);
    }
