use Rattle.std.proofs.Common.{◌∙◌, [], ◌∷◌, ap, sym, refl}
use Rattle.mbufpool_c.specs.declared.pool_handle.PoolHandle.{PoolHandle}
use Rattle.mbufpool_c.proofs.PoolLemmas.{gets-at-hand, gets-apart}
use Rattle.mbufpool_c.proofs.pool.mbufpool_pool_get_one.Goals as goal

-- the handle lent its worker, which got at hand
pub returns-in-Some-clause-called : goal.returns-in-Some-clause-called
returns-in-Some-clause-called c =
    let own = c.lend.ensures in
    let did = c.in-Some.ensures in
    let same = ap (λ (h : PoolHandle). h.value) c.is_empty.ensures.1 in
    gets-at-hand (c.in-Some.value ∷ []) _ _ c.get_one_at_hand.new.self c.args.pool.now.loans c.get_one_at_hand.new.loans (sym same ∙ own.value)
    did.same did.once did.got did.count did.all

-- which did nothing at hand
pub returns-clause-called : goal.returns-clause-called
returns-clause-called c =
    let own = c.lend.ensures in
    let none = c.in_default.ensures.none refl in
    let same = ap (λ (h : PoolHandle). h.value) c.is_empty.ensures.1 in
    gets-apart (c.get_one_apart.new.out ∷ []) _ c.get_one_apart.new.pool.handle.value _ c.get_one_at_hand.new.self c.args.pool.now.loans c.get_one_at_hand.new.loans
    c.get_one_apart.new.pool.loans c.get_one_apart.result (sym same ∙ own.value) none c.get_one_apart.ensures.called
