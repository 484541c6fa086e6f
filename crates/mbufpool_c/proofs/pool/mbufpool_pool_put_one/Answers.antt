use Rattle.std.proofs.Common.{◌∙◌, [], ◌∷◌, ap, sym, refl}
use Rattle.mbufpool_c.specs.declared.pool_handle.PoolHandle.{PoolHandle}
use Rattle.mbufpool_c.proofs.PoolLemmas.{puts-at-hand, puts-apart}
use Rattle.mbufpool_c.proofs.pool.mbufpool_pool_put_one.Goals as goal

-- the handle lent its worker, which put at hand
pub returns-then-put_one_at_hand : goal.returns-then-put_one_at_hand
returns-then-put_one_at_hand c =
    let own = c.lend.ensures in
    let did = c.if-put_one_at_hand.ensures in
    let same = ap (λ (h : PoolHandle). h.value) c.is_empty.ensures.1 in
    record {
      called = puts-at-hand (c.args.value ∷ []) _ _ c.put_one_at_hand.new.self c.args.pool.now.loans c.put_one_at_hand.new.loans (sym same ∙ own.value)
          did.same (did.once refl) (did.put refl) (did.count refl) did.all;
    }

-- which did nothing at hand
pub returns : goal.returns
returns c =
    let own = c.lend.ensures in
    let none = c.if-put_one_at_hand.ensures.not refl in
    let same = ap (λ (h : PoolHandle). h.value) c.is_empty.ensures.1 in
    record {
      called = puts-apart (c.args.value ∷ []) _ c.put_one_apart.new.pool.handle.value _ c.put_one_at_hand.new.self c.args.pool.now.loans c.put_one_at_hand.new.loans
          c.put_one_apart.new.pool.loans c.put_one_apart.result (sym same ∙ own.value) none c.put_one_apart.ensures.called;
    }
