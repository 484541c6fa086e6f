-- Elements that are gathered in a list.
use Rattle.std.proofs.Common.{ℕ, suc, eqb, IsPermutation, IsSorted, ◌≡◌, ◌≢◌, ◌+◌, ◌<◌, ◌≤◌, List, [], ◌∷◌, ◌++◌, Some, get_or, length, inl, inr, refl, sym, ap, ◌∙◌, arith}
use Rattle.std.specs.Prelude.{Contains, sum_by}
use Rattle.std.proofs.lemmas.Bool.{cases_eq, cases_lt}
use Rattle.std.proofs.lemmas.List.{get_or_default}
use Rattle.std.proofs.lemmas.List.Elements.{Contains-get_or}
use Rattle.std.proofs.lemmas.List.Kept.{AllPairs-from_increasing, Contains-dedup_nat, Contains-from_dedup}
use Rattle.std.proofs.lemmas.List.Sorted.{Contains-permutation, IsPermutation-sym}
use Rattle.std.proofs.lemmas.Map.Keys.{IsStrictlyIncreasing-dedup}
use Rattle.std.specs.List.{dedup}
use Rattle.std.specs.Ordering.{nat_cmp}
use Rattle.commons.specs.Bag.{bag, one}
use Rattle.commons.specs.Packets.{held_in}
use Rattle.commons.proofs.Bags.{bag-append, bag-cons, bag-nil, bag-single, bag-take-le, one-same}
use Rattle.commons.proofs.Places.{one-apart}
use Rattle.pool_model.specs.Guests.{guest_holds, local_table}
use Rattle.snapshot.specs.declared.snapshot.Snapshot.{Snapshot}
use Rattle.snapshot.specs.Snapshots.{times_named}
use Rattle.snapshot.specs.inside.Gathered.{AreStrangers, HasGathered, IsSetOf}
use Rattle.snapshot.specs.inside.Least.{IsLeast}
use Rattle.snapshot.specs.declared.fault.Fault.TheVariants.{BadElem}
use Rattle.snapshot.specs.Faults.{IsCleanBelow, IsFirstFault}
use Rattle.snapshot.proofs.ElemFaults.{first-elem}
use Rattle.snapshot.proofs.Meetings.{bag-suc}
use Rattle.snapshot.proofs.NamedSums.{named-sum}

-- nothing was met
pub gathered-none : (limit : ℕ) (times : ℕ → ℕ) (named : List ℕ) → ((e : ℕ) → times e ≡ 0) →
    HasGathered limit times named named
gathered-none limit times named none = record { above = λ e l. omega (arith, none e); below = λ e l. refl }

-- the same elements in other words
pub gathered-as : (limit : ℕ) (these those : ℕ → ℕ) (old new : List ℕ) → HasGathered limit these old new →
    ((e : ℕ) → those e ≡ these e) → HasGathered limit those old new
gathered-as limit these those old new is same =
    record { above = λ e l. omega (arith, is.above e l, same e); below = is.below }

-- these were met, and then those
pub gathered-then : (limit : ℕ) (first then all : ℕ → ℕ) (old mid new : List ℕ) → HasGathered limit first old mid →
    HasGathered limit then mid new → ((e : ℕ) → all e ≡ first e + then e) → HasGathered limit all old new
gathered-then limit first then all old mid new f t same = record {
  above = λ e l. omega (arith, f.above e l, t.above e l, same e);
  below = λ e l. omega (arith, f.below e l, t.below e l);
}

-- one that isn't below the limit is gathered
pub gathered-one : (limit : ℕ) (named : List ℕ) (k : ℕ) → limit ≤ k → HasGathered limit (one k) named (named ++ k ∷ [])
gathered-one limit named k high = record {
  above = λ e l. omega (arith, bag-append named (k ∷ []) e, bag-single k e);
  below = λ e l. let other : e ≢ k = λ same. omega (arith, same) in
      omega (arith, bag-append named (k ∷ []) e, bag-single k e, one-apart k e other);
}

-- and one that is below isn't
pub gathered-low : (limit : ℕ) (named : List ℕ) (k : ℕ) → k < limit → HasGathered limit (one k) named named
gathered-low limit named k low = record {
  above = λ e l. let other : e ≢ k = λ same. omega (arith, same) in
      omega (arith, one-apart k e other);
  below = λ e l. refl;
}

-- what is counted in a list stands there
pub bag-contains : (xs : List ℕ) (e : ℕ) → 0 < bag xs e → Contains xs e
bag-contains [] e some = absurd (omega (arith, bag-nil e))
bag-contains (x ∷ xs) e some = elim (cases_eq e x) [
  | inl same ↦ (0, omega arith, sym same)
  | inr other ↦
      let rest = bag-contains xs e (omega (arith, some, bag-cons x xs e, one-apart x e other)) in
      let l = rest.1 in
      (suc rest.0, omega arith, rest.2)
]

-- and the other way round
pub contains-bag : (xs : List ℕ) (e : ℕ) → Contains xs e → 0 < bag xs e
contains-bag xs e there =
    let k = there.0 in
    let x = get_or xs k e in
    let here : get_or xs k 0 ≡ e = sym (get_or_default xs k e 0 there.1) ∙ there.2 in
    let once : one (get_or xs k 0) e ≡ 1 = ap (λ (y : ℕ). one y e) here ∙ one-same e in
    omega (arith, bag-suc xs k e there.1, bag-take-le (k + 1) xs e, once)

-- what the stack, shares, desks and guests name and the pool doesn't have, each once
pub strangers-are : (stack : List ℕ) (s : Snapshot) (listed shared desked all elems : List ℕ) →
    HasGathered s.limits.population (bag stack) [] listed →
    HasGathered s.limits.population
    (λ e. sum_by (λ share. bag share.cache e + held_in (local_table s.foreign share.slots) e) s.shares) listed shared →
    HasGathered s.limits.population (held_in (local_table s.foreign s.desks)) shared desked →
    HasGathered s.limits.population (guest_holds s.guests) desked all → IsSetOf all elems → AreStrangers stack s elems
strangers-are stack s listed shared desked all elems a b c d set =
    let limit = s.limits.population in
    let high : (e : ℕ) → limit ≤ e → bag all e ≡ bag stack e + times_named s e = (λ e l. omega (
      arith,
      a.above e l,
      b.above e l,
      c.above e l,
      d.above e l,
      bag-nil e,
      named-sum s e,
    )) in
    let low : (e : ℕ) → e < limit → bag all e ≡ 0 =
    (λ e l. omega (arith, a.below e l, b.below e l, c.below e l, d.below e l, bag-nil e)) in
    record {
      ascending = set.ascending;
      exactly = λ e. (
        λ there.
            let some = contains-bag all e ((set.same e).0 there) in
            elim (cases_lt e limit) [
              | inl l ↦ absurd (omega (arith, some, low e l))
              | inr l ↦ (omega (arith, some, high e l), l)
            ],
        λ is. (set.same e).1 (bag-contains all e (omega (arith, is.0, high e is.1))),
      );
    }

-- the first of them is the least
stranger-least : (s : Snapshot) (elems : List ℕ) → AreStrangers [] s elems → 0 < length elems →
    IsLeast s.limits.population (times_named s) (Some (get_or elems 0 0))
stranger-least s elems are some =
    let v = get_or elems 0 0 in
    let is = (are.exactly v).0 (Contains-get_or elems 0 0 some) in (
      is.1,
      omega (arith, is.0, bag-nil v),
      λ e l less. elim (cases_lt 0 (times_named s e)) [
        | inr none ↦ omega (arith, none)
        | inl named ↦
            let there = (are.exactly e).1 (omega (arith, named), l) in
            let here : get_or elems there.0 0 ≡ e = sym (get_or_default elems there.0 e 0 there.1) ∙ there.2 in
            elim (cases_eq there.0 0) [
              | inl zeroth ↦
                  let same : v ≡ e = sym (ap (λ (k : ℕ). get_or elems k 0) zeroth) ∙ here in
                  absurd (omega (arith, same, less))
              | inr later ↦
                  let after : get_or elems 0 0 < get_or elems there.0 0 =
                  are.ascending 0 there.0 0 (omega (arith, later)) there.1 in
                  absurd (omega (arith, after, here, less))
            ]
      ],
    )

-- so it is the first fault
pub stranger-first : (s : Snapshot) (elems : List ℕ) → IsCleanBelow 4 s → AreStrangers [] s elems → 0 < length elems →
    IsFirstFault s (BadElem (get_or elems 0 0))
stranger-first s elems clean are some = first-elem s (get_or elems 0 0) clean (stranger-least s elems are some)

-- where there is none, nothing is named that the pool doesn't have
pub strangers-none : (s : Snapshot) (elems : List ℕ) → AreStrangers [] s elems → length elems ≡ 0 → (e : ℕ) →
    s.limits.population ≤ e → times_named s e ≡ 0
strangers-none s elems are none e l = elim (cases_lt 0 (times_named s e)) [
  | inr zeroth ↦ omega (arith, zeroth)
  | inl named ↦
      let there = (are.exactly e).1 (omega (arith, named), l) in
      absurd (omega (arith, there.1, none))
]

-- sorted, and without repeats, a list has the same elements, each once
pub set-of : (old mid new : List ℕ) → IsPermutation old mid → IsSorted nat_cmp mid → new ≡ dedup eqb mid →
    IsSetOf old new
set-of old mid new same sorted is = rw is (record {
  ascending = AllPairs-from_increasing (dedup eqb mid) (IsStrictlyIncreasing-dedup mid sorted);
  same = λ e. (
    λ there. Contains-permutation mid old e (IsPermutation-sym old mid same)
        (Contains-from_dedup eqb mid e there),
    λ there. Contains-dedup_nat mid e (Contains-permutation old mid e same there),
  );
})
