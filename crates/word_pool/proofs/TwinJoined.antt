-- The shares of one worker of two pools, and of two that are joined.
use Rattle.std.proofs.Common.{List, [], ◌∷◌, ◌++◌, ◌+◌, arith}
use Rattle.std.proofs.lemmas.List.Sums.{sum_by-append, sum_by-cons}
use Rattle.commons.specs.Bag.{bag}
use Rattle.commons.specs.declared.limits.Limits.{Limits}
use Rattle.commons.specs.Packets.{held_in, own_in}
use Rattle.commons.proofs.Bags.{bag-append}
use Rattle.ground.specs.Parting.{both_views}
use Rattle.mbuf.specs.Foreign.{bases_in}
use Rattle.mbuf.specs.Twins.{OwnTwin, TwinMember}
use Rattle.step_core.specs.declared.view.View.{View}
use Rattle.word_pool.specs.Shares.{side_in}
use Rattle.word_pool.specs.TwinShares.{AreTwinShares}

-- what is a worker's own is what its views have
pub one_twin_share : (l k : Limits) (v u : View) (t : TwinMember) → OwnTwin t (side_in l v) (side_in k u) →
    AreTwinShares (t ∷ []) v u
one_twin_share l k v u t own = record {
  first = record {
    caches = λ i. let one = sum_by-cons (λ (x : TwinMember). bag x.first.cache i) t [] in
        omega (arith, own.first.cached i);
    packets = λ i.
        let one = sum_by-cons (λ (x : TwinMember). held_in x.first.table i + bases_in x.second.table i) t [] in
        omega (arith, own.first.held i);
    headers = λ i. let one = sum_by-cons (λ (x : TwinMember). own_in x.first.table i) t [] in
        omega (arith, own.first.headed i);
  };
  second = record {
    caches = λ i. let one = sum_by-cons (λ (x : TwinMember). bag x.second.cache i) t [] in
        omega (arith, own.second.cached i);
    packets = λ i. let one = sum_by-cons (λ (x : TwinMember). own_in x.second.table i) t [] in
        omega (arith, own.second.held i);
    headers = λ i. let one = sum_by-cons (λ (x : TwinMember). own_in x.second.table i) t [] in
        omega (arith, own.second.headed i);
  };
}

-- lists put together have each element as often as both
pub both_twin_shares : (v w u x : View) (first second : List TwinMember) → AreTwinShares first v u →
    AreTwinShares second w x → AreTwinShares (first ++ second) (both_views v w) (both_views u x)
both_twin_shares v w u x first second a b = record {
  first = record {
    caches = λ i. let all = sum_by-append (λ (m : TwinMember). bag m.first.cache i) first second in
        omega (arith, a.first.caches i, b.first.caches i, bag-append v.hand w.hand i);
    packets = λ i.
        let all = sum_by-append (λ (m : TwinMember). held_in m.first.table i + bases_in m.second.table i) first second in
        omega (arith, a.first.packets i, b.first.packets i, bag-append v.holds w.holds i);
    headers = λ i. let all = sum_by-append (λ (m : TwinMember). own_in m.first.table i) first second in
        omega (arith, a.first.headers i, b.first.headers i, bag-append v.headers w.headers i);
  };
  second = record {
    caches = λ i. let all = sum_by-append (λ (m : TwinMember). bag m.second.cache i) first second in
        omega (arith, a.second.caches i, b.second.caches i, bag-append u.hand x.hand i);
    packets = λ i. let all = sum_by-append (λ (m : TwinMember). own_in m.second.table i) first second in
        omega (arith, a.second.packets i, b.second.packets i, bag-append u.holds x.holds i);
    headers = λ i. let all = sum_by-append (λ (m : TwinMember). own_in m.second.table i) first second in
        omega (arith, a.second.headers i, b.second.headers i, bag-append u.headers x.headers i);
  };
}
