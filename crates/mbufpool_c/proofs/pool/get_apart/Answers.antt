use Rattle.std.proofs.Common.{Option, Some, sym, refl, subst}
use Rattle.mbufpool_c.specs.Pools.{GetsIn, Pooled}
use Rattle.mbufpool_c.proofs.pool.get_apart.Goals as goal

-- the handle lent its worker, which got or was refused
pub returns : goal.returns
returns c =
    let own = c.lend.ensures in
    let did = c.get-answer.ensures in
    record {
      called = subst
          (λ (v : Option Pooled). GetsIn c.get-answer.new.out v c.args.pool.now.loans c.status_of.result
          (Some c.get-answer.new.self) c.get-answer.new.loans) (sym own.value)
          (c.get-answer.result, c.get-answer.new.self, refl, c.status_of.ensures, did.same, did.once, did.got, did.count, did.all);
    }
