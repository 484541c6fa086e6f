use Rattle.std.proofs.Common.{◌∙◌, ap, sym, refl}
use Rattle.mbufpool_c.specs.declared.pool_handle.PoolHandle.{PoolHandle}
use Rattle.mbufpool_c.proofs.PoolLemmas.{gets-at-hand, gets-apart}
use Rattle.mbufpool_c.proofs.pool.mbufpool_pool_get.Goals as goal

-- the handle lent its worker, which got at hand
pub returns-then-get_at_hand : goal.returns-then-get_at_hand
returns-then-get_at_hand c =
    let own = c.lend.ensures in
    let did = c.if-get_at_hand.ensures in
    let same = ap (λ (h : PoolHandle). h.value) c.is_empty.ensures.1 in
    record {
      called = gets-at-hand c.get_at_hand.new.out _ _ c.get_at_hand.new.self c.args.pool.now.loans c.get_at_hand.new.loans (sym same ∙ own.value)
          did.same (did.once refl) (did.got refl) (did.count refl) did.all;
    }

-- which did nothing at hand
pub returns : goal.returns
returns c =
    let own = c.lend.ensures in
    let none = c.if-get_at_hand.ensures.not refl in
    let same = ap (λ (h : PoolHandle). h.value) c.is_empty.ensures.1 in
    record {
      called = gets-apart c.get_apart.new.out _ c.get_apart.new.pool.handle.value _ c.get_at_hand.new.self c.args.pool.now.loans c.get_at_hand.new.loans
          c.get_apart.new.pool.loans c.get_apart.result (sym same ∙ own.value) none c.get_apart.ensures.called;
    }
