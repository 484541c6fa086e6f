-- Each act keeps each element in one place.
use Rattle.std.proofs.Common.{ℕ, zero, suc, ◌≡◌, ◌+◌, ◌-◌, ◌<◌, ◌≤◌, inl, inr, nat_lt, cond, List, [], ◌∷◌, length, set, replicate, None, refl, ◌∙◌, arith}
use Rattle.std.specs.Prelude.{min, sum_by}
use Rattle.std.specs.List.{range_with_len}
use Rattle.std.proofs.lemmas.List.Sums.{sum_by-cons, sum_by-set, get_or-le-sum_by}
use Rattle.std.proofs.lemmas.Bool.{cases_lt, cond-true, cond-false, lt-ltb, le-ltb}
use Rattle.std.proofs.lemmas.Bool.Decides.{nat_tests}
use Rattle.commons.specs.Bag.{bag}
use Rattle.commons.specs.declared.limits.Limits.{Limits}
use Rattle.commons.specs.Packets.{held_in, own_in}
use Rattle.commons.proofs.Bags.{bag-nil}
use Rattle.commons.proofs.Opening.{bag-range_in, bag-range_high}
use Rattle.commons.proofs.PacketBags.{held_in-empty, own_in-empty, own_in-held}
use Rattle.mbuf.specs.declared.acts.Act.{Act}
use Rattle.mbuf.specs.Acts.{Reply}
use Rattle.mbuf.specs.Fresh.{AreFresh, new_elements}
use Rattle.mbuf.specs.Members.{Member, slots}
use Rattle.pool_model.specs.Pool.{Shared, Pool, held_by, held_of, member_at, new_members, new_pool, nobody, own_by, own_of, with_member}
use Rattle.pool_model.specs.PacketModel.{after_acts, perform}
use Rattle.pool_model.specs.Standing.{GaveOnly}
use Rattle.pool_model.proofs.ActLeaves.{after_act, of_act, by_others, by_others-add, held_by-set}
use Rattle.pool_model.proofs.AfterActs.{after_acts-keeps}
use Rattle.pool_model.proofs.Leaves.{Leaves, near_desks}

-- how often all caches have an element
abbrev cached_by : List Member → ℕ → ℕ
cached_by members i = sum_by (λ member. bag member.cache i) members

-- Each element of the pool is in one place, and nothing else is anywhere; and each is the own
-- element of at most one segment of all packets.
pub record IsBalanced (pool : Pool) : Type 0 where
  pub placed : (i : ℕ) → bag pool.shared.common i + cached_by pool.members i
      + min 1 (held_of pool.members pool.shared.desks i)
      ≡ cond (nat_lt i pool.limits.population) 1 0
  pub own : (i : ℕ) → own_of pool.members pool.shared.desks i ≤ 1

-- packets hold their own elements
own_by-held : (members : List Member) (i : ℕ) → own_by members i ≤ held_by members i
own_by-held [] i = omega arith
own_by-held (m ∷ members) i = omega (
  arith,
  own_by-held members i,
  own_in-held m.table i,
  sum_by-cons (λ (m : Member). own_in m.table i) m members,
  sum_by-cons (λ (m : Member). held_in m.table i) m members,
)

-- what was an own element before, or was in no packet then
own_left : (own before given held cached : ℕ) → own ≤ before + given → before ≤ 1 → before ≤ held →
    given ≤ cached → cached + min 1 held ≤ 1 → own ≤ 1
own_left own before given held cached a b c d e = elim (cases_lt 0 held) [
  | inl some ↦ omega (arith, a, b, d, e, some)
  | inr none ↦ omega (arith, a, c, d, e, none)
]

-- an element of the pool counts once
pub at_most_one : (i n : ℕ) → ◌≤◌ (cond (nat_lt i n) 1 0) 1
at_most_one i n = grind (arith, nat_tests)

-- an element is near each worker at most once
pub near_once : (pool : Pool) (n i : ℕ) → IsBalanced pool → n < length pool.members →
    near_desks (by_others pool n i) (member_at pool n) pool.shared i ≤ 1
near_once pool n i b h =
    let part : bag (member_at pool n).cache i ≤ cached_by pool.members i =
    get_or-le-sum_by (λ (m : Member). bag m.cache i) pool.members n (nobody pool.limits) h in
    omega (arith, by_others-add pool n i h, part, at_most_one i pool.limits.population, b.placed i)

-- a member and what all share change so that each element stays in one place
pub with_member-balanced : (act : Act) (pool : Pool) (n : ℕ) (done : Reply × Member × Shared) →
    IsBalanced pool → n < length pool.members →
    Leaves act (by_others pool n) (member_at pool n) pool.shared done → IsBalanced (with_member pool n done.1 done.2)
with_member-balanced act pool n done b h left = record {
  placed = λ i.
      let others = by_others-add pool n i h in
      let held = held_by-set pool.members n done.1 (nobody pool.limits) i h in
      let cached : cached_by (set pool.members n done.1) i + bag (member_at pool n).cache i
      ≡ cached_by pool.members i + bag done.1.cache i =
      sum_by-set (λ (m : Member). bag m.cache i) pool.members n done.1 (nobody pool.limits) h in
      let part : bag (member_at pool n).cache i ≤ cached_by pool.members i =
      get_or-le-sum_by (λ (m : Member). bag m.cache i) pool.members n (nobody pool.limits) h in
      let once = at_most_one i pool.limits.population in
      omega (arith, others, held, cached, part, once, b.placed i, left.placed i (near_once pool n i b h));
  own = λ i.
      let change : own_by (set pool.members n done.1) i + own_in (member_at pool n).table i
      ≡ own_by pool.members i + own_in done.1.table i =
      sum_by-set (λ (m : Member). own_in m.table i) pool.members n done.1 (nobody pool.limits) h
      in
      let part : bag (member_at pool n).cache i ≤ cached_by pool.members i =
      get_or-le-sum_by (λ (m : Member). bag m.cache i) pool.members n (nobody pool.limits) h in
      own_left (own_by (set pool.members n done.1) i + own_in done.2.desks i)
      (own_by pool.members i + own_in pool.shared.desks i) (bag (new_elements done.0) i)
      (held_of pool.members pool.shared.desks i)
      (bag (member_at pool n).cache i + bag pool.shared.common i)
      (omega (arith, change, left.own i)) (b.own i)
      (omega (arith, own_by-held pool.members i, own_in-held pool.shared.desks i))
      (left.fresh i) (omega (arith, part, at_most_one i pool.limits.population, b.placed i));
}

-- an act moves elements among its worker's places and the shared ones, and each stays in one
perform-balanced : (pool : Pool) (w : ℕ) (act : Act) → IsBalanced pool → IsBalanced (perform pool w act).1
perform-balanced pool w act b =
    after_act IsBalanced pool w act b
    (λ n done h left. with_member-balanced act pool n done b h left)

-- any acts of workers leave each element in one place
pub after_acts-balanced : (acts : List (ℕ × Act)) (pool : Pool) → IsBalanced pool → IsBalanced (after_acts acts pool)
after_acts-balanced = after_acts-keeps IsBalanced perform-balanced

-- new members hold nothing
pub held_by-new : (l : Limits) (number n i : ℕ) → held_by (new_members l number n) i ≡ 0
held_by-new l number zero i = refl
held_by-new l number (suc n) i =
    let m : Member = record { limits = l; number = number; cache = []; table = replicate slots None } in
    sum_by-cons (λ (m : Member). held_in m.table i) m (new_members l (number + 1) n)
    ∙ omega (arith, held_in-empty slots i, held_by-new l (number + 1) n i)

-- new members have no own elements
own_by-new : (l : Limits) (number n i : ℕ) → own_by (new_members l number n) i ≡ 0
own_by-new l number n i = omega (arith, own_by-held (new_members l number n) i, held_by-new l number n i)

-- new members cache nothing
cached_by-new : (l : Limits) (number n i : ℕ) → cached_by (new_members l number n) i ≡ 0
cached_by-new l number zero i = refl
cached_by-new l number (suc n) i =
    let m : Member = record { limits = l; number = number; cache = []; table = replicate slots None } in
    sum_by-cons (λ (m : Member). bag m.cache i) m (new_members l (number + 1) n)
    ∙ omega (arith, bag-nil i, cached_by-new l (number + 1) n i)

-- of the numbers below n each is there once, and no other is
pub range-bag : (n i : ℕ) → bag (range_with_len 0 n) i ≡ cond (nat_lt i n) 1 0
range-bag n i = elim (cases_lt i n) [
  | inl h ↦ let k = bag-range_in 0 n i (omega arith) (omega arith) in grind (arith, nat_tests)
  | inr h ↦ let k = bag-range_high 0 n i (omega arith) in grind (arith, nat_tests)
]

-- in a new pool each element is in the common list
pub new_pool-balanced : (l : Limits) → IsBalanced (new_pool l)
new_pool-balanced l = record {
  placed =
      λ i.
      rw (held_by-new l 1 l.workers i, cached_by-new l 1 l.workers i, held_in-empty l.desks i)
      (omega (arith, range-bag l.population i));
  own = λ i. omega (arith, own_by-new l 1 l.workers i, own_in-empty l.desks i);
}

-- an element that was in a cache or the common list is one of the pool, and was held by nothing
was_free : (given cached elsewhere held i population : ℕ) → 0 < given → given ≤ cached →
    cached + elsewhere + min 1 held ≡ cond (nat_lt i population) 1 0 →
    (i < population) × (given ≤ 1) × (held ≡ 0)
was_free given cached elsewhere held i population some h all = elim (cases_lt i population) [
  | inl within ↦ let one =
      all ∙ cond-true (nat_lt i population) 1 0 (lt-ltb i population within) in
      (within, omega (arith, one, h), omega (arith, one, h, some))
  | inr past ↦ let none =
      all ∙ cond-false (nat_lt i population) 1 0 (le-ltb i population past) in absurd
      (omega (arith, none, h, some))
]

-- what a worker of a balanced pool is given was nobody's
pub given_fresh : (pool : Pool) (w : ℕ) (act : Act) → IsBalanced pool →
    AreFresh pool.limits.population (held_of pool.members pool.shared.desks)
    (new_elements (perform pool w act).0)
given_fresh pool w act b =
    of_act (λ r. AreFresh pool.limits.population (held_of pool.members pool.shared.desks) (new_elements r.0)) pool w act
    (record {
      below = λ i some. absurd (omega (arith, some, bag-nil i));
      once = λ i. omega (arith, bag-nil i);
      unheld = λ i some. absurd (omega (arith, some, bag-nil i));
    })
    (λ n done number within is left.
    let free : (i : ℕ) → 0 < bag (new_elements done.0) i →
    (i < pool.limits.population) × (bag (new_elements done.0) i ≤ 1)
    × (held_of pool.members pool.shared.desks i ≡ 0) =
    λ i some.
    let part : bag (member_at pool n).cache i ≤ cached_by pool.members i =
    get_or-le-sum_by (λ (m : Member). bag m.cache i) pool.members n (nobody pool.limits) within
    in
    was_free (bag (new_elements done.0) i)
    (bag (member_at pool n).cache i + bag pool.shared.common i)
    (cached_by pool.members i - bag (member_at pool n).cache i)
    (held_of pool.members pool.shared.desks i) i pool.limits.population some (left.fresh i)
    (omega (arith, part, b.placed i)) in record {
      below = λ i some. (free i some).0;
      once =
          λ i.
          elim (cases_lt 0 (bag (new_elements done.0) i))
          [ inl some ↦ (free i some).1 | inr none ↦ omega (arith, none) ];
      unheld = λ i some. (free i some).2;
    })

-- in a pool that acts made of a new one each act gives only elements that are fresh
pub acts_give_fresh : (l : Limits) (acts : List (ℕ × Act)) (w : ℕ) (act : Act) →
    let pool = after_acts acts (new_pool l) in
    AreFresh pool.limits.population (held_of pool.members pool.shared.desks)
    (new_elements (perform pool w act).0)
acts_give_fresh l acts w act =
    given_fresh (after_acts acts (new_pool l)) w act
    (after_acts-balanced acts (new_pool l) (new_pool-balanced l))

-- ---- own elements

-- how often all workers' packets have it as an own element, once one has changed
own_by-set : (pool : Pool) (n : ℕ) (m : Member) (i : ℕ) → n < length pool.members →
    own_by (set pool.members n m) i + own_in (member_at pool n).table i
    ≡ own_by pool.members i + own_in m.table i
own_by-set pool n m i within =
    sum_by-set (λ (m : Member). own_in m.table i) pool.members n m (nobody pool.limits) within

-- what a worker is told of as new stands in its packets, and nothing else has come into any
pub gave_only : (pool : Pool) (w : ℕ) (act : Act) → let done =
    perform pool w act in GaveOnly (new_elements done.0) pool done.1
gave_only pool w act =
    of_act (λ r. GaveOnly (new_elements r.0) pool r.1) pool w act
    (record { stands = λ i. omega (arith, bag-nil i); no_others = λ i. omega arith })
    (λ n done number within is left. record {
      stands =
          λ i.
          omega (
            arith,
            left.stands i,
            left.own i,
            own_by-set pool n done.1 i within,
            get_or-le-sum_by (λ (m : Member). own_in m.table i) pool.members n
                (nobody pool.limits) within,
          );
      no_others = λ i. omega (arith, left.own i, own_by-set pool n done.1 i within);
    })
