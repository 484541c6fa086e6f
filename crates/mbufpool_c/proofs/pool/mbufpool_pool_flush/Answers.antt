use Rattle.std.proofs.Common.{◌∙◌, Option, Some, ap, sym, refl, subst}
use Rattle.mbufpool_c.specs.declared.pool_handle.PoolHandle.{PoolHandle}
use Rattle.mbufpool_c.specs.Pools.{FlushesIn, Pooled}
use Rattle.mbufpool_c.proofs.PoolLemmas.{flushed}
use Rattle.mbufpool_c.proofs.pool.mbufpool_pool_flush.Goals as goal

-- the handle lent its worker, which flushed or was refused
pub returns-clause-called : goal.returns-clause-called
returns-clause-called c =
    let own = c.lend.ensures in
    let did = c.flush-answer.ensures in
    let same = ap (λ (h : PoolHandle). h.value) c.is_empty.ensures.1 in
    subst (λ (v : Option Pooled). FlushesIn v c.status_of.result (Some c.flush-answer.new.self))
    (sym (sym same ∙ own.value)) (
      c.flush-answer.result,
      c.flush-answer.new.self,
      refl,
      c.status_of.ensures,
      did.same,
      flushed _ c.flush-answer.result _ _ did.empty did.cause,
      did.count,
      did.logs,
    )
