use Rattle.std.proofs.Common.{◌∙◌, Option, Some, ap, sym, refl, subst}
use Rattle.mbufpool_c.specs.declared.pool_handle.PoolHandle.{PoolHandle}
use Rattle.mbufpool_c.specs.Pools.{LooksIn, Pooled}
use Rattle.mbufpool_c.proofs.pool.mbufpool_pool_front.Goals as goal

-- the handle lent its worker, which has what it had
pub returns-clause-called : goal.returns-clause-called
returns-clause-called c =
    let own = c.lend-own.ensures in
    let did = c.front_address.ensures in
    let same = ap (λ (h : PoolHandle). h.value) c.is_empty.ensures.1 in
    subst (λ (v : Option Pooled). LooksIn v 0 (Some c.front_address.new.self)) (sym (sym same ∙ own.value))
    (c.front_address.new.self, refl, refl, did.same, did.cached, did.count)
