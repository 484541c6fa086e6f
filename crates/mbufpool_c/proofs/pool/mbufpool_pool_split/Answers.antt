use Rattle.std.proofs.Common.{◌∙◌, Option, Some, ap, sym, subst}
use Rattle.mbufpool_c.specs.declared.pool_handle.PoolHandle.{PoolHandle}
use Rattle.mbufpool_c.specs.Pools.{Splits, Pooled}
use Rattle.mbufpool_c.proofs.pool.mbufpool_pool_split.Goals as goal

-- the handle lent its worker, of which another was made
pub returns-in-Ok-clause-made : goal.returns-in-Ok-clause-made
returns-in-Ok-clause-made c is =
    let own = c.lend.ensures in
    let did = c.in-Ok.ensures in
    let same = ap (λ (h : PoolHandle). h.value) c.is_empty.ensures.1 in
    subst (λ (v : Option Pooled). Splits v (Some c.split.new.self) c.fill.new.self.handle.value)
    (sym (sym same ∙ own.value))
    (did.less.0, ap Some did.less.1, (c.in-Ok.other.value, c.fill.ensures.worker, did.made.0, did.made.1, did.made.2))
