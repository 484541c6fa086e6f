-- The shares of one seat, and of two that are joined.
use Rattle.std.proofs.Common.{ℕ, List, [], ◌∷◌, ◌++◌, sym, arith}
use Rattle.std.proofs.lemmas.List.Sums.{sum_by-append, sum_by-cons}
use Rattle.commons.specs.Bag.{bag}
use Rattle.commons.specs.declared.limits.Limits.{Limits}
use Rattle.commons.specs.Packets.{held_in, own_in}
use Rattle.commons.proofs.Bags.{bag-append, bag-nil}
use Rattle.ground.specs.Parting.{both_views}
use Rattle.mbuf.specs.Members.{Member}
use Rattle.mbuf.specs.Own.{Own}
use Rattle.step_core.specs.declared.view.View.{View}
use Rattle.step_core.specs.World.{empty_view}
use Rattle.word_pool.specs.Shares.{AreSharesOf, side_in}

-- a worker's own packets are what its view has
pub one_share : (l : Limits) (v : View) (m : Member) → Own m (side_in l v) → AreSharesOf (m ∷ []) v
one_share l v m own = record {
  caches = λ i. let one = sum_by-cons (λ (x : Member). bag x.cache i) m [] in omega (arith, own.cached i);
  packets = λ i. let one = sum_by-cons (λ (x : Member). held_in x.table i) m [] in omega (arith, own.held i);
  headers = λ i. let one = sum_by-cons (λ (x : Member). own_in x.table i) m [] in omega (arith, own.headed i);
}

-- nobody has nothing
pub no_share : (part : ℕ) → AreSharesOf [] (empty_view part)
no_share part = record {
  caches = λ i. sym (bag-nil i);
  packets = λ i. sym (bag-nil i);
  headers = λ i. omega arith;
}

-- lists put together have each element as often as both
pub both_shares : (v u : View) (first second : List Member) → AreSharesOf first v → AreSharesOf second u →
    AreSharesOf (first ++ second) (both_views v u)
both_shares v u first second a b = record {
  caches = λ i. let all = sum_by-append (λ (x : Member). bag x.cache i) first second in
      omega (arith, a.caches i, b.caches i, bag-append v.hand u.hand i);
  packets = λ i. let all = sum_by-append (λ (x : Member). held_in x.table i) first second in
      omega (arith, a.packets i, b.packets i, bag-append v.holds u.holds i);
  headers = λ i. let all = sum_by-append (λ (x : Member). own_in x.table i) first second in
      omega (arith, a.headers i, b.headers i, bag-append v.headers u.headers i);
}
