-- Looking for the least element that stands twice.
use Rattle.std.proofs.Common.{ℕ, suc, ◌≡◌, ◌≢◌, ◌+◌, ◌<◌, ◌≤◌, ◌⊎◌, List, Option, None, Some, nat_le, get_or, length, take, set, inl, inr, replicate, sym, ap, subst, ◌∙◌, arith}
use Rattle.std.proofs.lemmas.Bool.{cases_Bool, cases_lt}
use Rattle.std.proofs.lemmas.Bool.Decides.{nat_tests}
use Rattle.std.proofs.lemmas.List.{get_or-replicate, get_or-set_other, get_or-set_same, get_or-take, length-replicate, length-set, length-take-le}
use Rattle.std.proofs.lemmas.List.Sums.{sum_by_more}
use Rattle.std.proofs.Math.Seq.{take-length}
use Rattle.commons.specs.Bag.{bag, one}
use Rattle.commons.proofs.Bags.{bag-nil, bag-take-le, one-same}
use Rattle.snapshot_json.specs.Doubles.{AreFirst, IsLeastOf, lesser_of}
use Rattle.snapshot_json.specs.Reading.{IsLeastDouble}
use Rattle.snapshot_json.specs.declared.text.Double.{Double}

-- a list with one element more
bag-suc : (xs : List ℕ) (k i : ℕ) → k < length xs →
    bag (take (k + 1) xs) i ≡ bag (take k xs) i + one (get_or xs k 0) i
unfolding bag
bag-suc xs k i l = sum_by_more (λ x. one x i) xs k 0 l

-- two numbers are the same, or they aren't
same_or_not : (a b : ℕ) → (a ≡ b) ⊎ (a ≢ b)
same_or_not a b = elim (cases_lt a b) [
  | inl h ↦ inr (λ e. omega (arith, h, e))
  | inr h ↦ elim (cases_lt b a) [
    | inl g ↦ inr (λ e. omega (arith, g, e))
    | inr g ↦ let e : a ≡ b = omega arith in inl e
  ]
]

one-other : (x i : ℕ) → i ≢ x → one x i ≡ 0
one-other x i ne = grind (arith, nat_tests)

-- of no elements, none stands anywhere
pub first-none : (common : List ℕ) (population : ℕ) → AreFirst common 0 population (replicate population 0)
first-none common population = record {
  len = length-replicate {A = ℕ} population 0;
  none = λ e h z. bag-nil e;
  low = λ e h. omega (arith, get_or-replicate {A = ℕ} population e 0 0 h);
  first = λ e p h q. absurd (omega (arith, get_or-replicate {A = ℕ} population e 0 0 h, q));
}

-- an element that wasn't met before stands first where it is met now
pub first-met : (common places : List ℕ) (k population e : ℕ) → AreFirst common k population places →
    k < length common → e ≡ get_or common k 0 → e < population → get_or places e 0 ≡ 0 →
    AreFirst common (k + 1) population (set places e (k + 1))
first-met common places k population e were l is known new = record {
  len = length-set places e (k + 1) ∙ were.len;
  none = λ i h z. elim (same_or_not i e) [
    | inl s ↦ absurd (
        let here : e < length places = omega (arith, were.len, known) in
        let at : get_or (set places e (k + 1)) e 0 ≡ k + 1 = get_or-set_same places e (k + 1) 0 here in
        let z2 : get_or (set places e (k + 1)) e 0 ≡ 0 = subst (λ (j : ℕ). get_or (set places e (k + 1)) j 0 ≡ 0) s z in
        omega (arith, at, z2)
        )
    | inr n ↦
        let at : get_or (set places e (k + 1)) i 0 ≡ get_or places i 0 = get_or-set_other places e i (k + 1) 0 n in
        let other : one (get_or common k 0) i ≡ 0 = one-other (get_or common k 0) i (λ q. n (q ∙ sym is)) in
        omega (arith, bag-suc common k i l, were.none i h (sym at ∙ z), other)
  ];
  low = λ i h. elim (same_or_not i e) [
    | inl s ↦
        let here : e < length places = omega (arith, were.len, known) in
        let at : get_or (set places e (k + 1)) e 0 ≡ k + 1 = get_or-set_same places e (k + 1) 0 here in
        subst (λ (j : ℕ). get_or (set places e (k + 1)) j 0 ≤ k + 1) (sym s) (omega (arith, at))
    | inr n ↦
        let at : get_or (set places e (k + 1)) i 0 ≡ get_or places i 0 = get_or-set_other places e i (k + 1) 0 n in
        omega (arith, were.low i h, at)
  ];
  first = λ i p h q. elim (same_or_not i e) [
    | inl s ↦
        let here : e < length places = omega (arith, were.len, known) in
        let at : get_or (set places e (k + 1)) e 0 ≡ k + 1 = get_or-set_same places e (k + 1) 0 here in
        let q2 : get_or (set places e (k + 1)) e 0 ≡ suc p =
        subst (λ (j : ℕ). get_or (set places e (k + 1)) j 0 ≡ suc p) s q in
        let pk : p ≡ k = omega (arith, at, q2) in
        ap (λ (j : ℕ). get_or common j 0) pk ∙ sym is ∙ sym s
    | inr n ↦
        let at : get_or (set places e (k + 1)) i 0 ≡ get_or places i 0 = get_or-set_other places e i (k + 1) 0 n in
        were.first i p h (sym at ∙ q)
  ];
}

-- an element that was met before stands first where it did
pub first-again : (common places : List ℕ) (k population e : ℕ) → AreFirst common k population places →
    k < length common → e ≡ get_or common k 0 → 0 < get_or places e 0 →
    AreFirst common (k + 1) population places
first-again common places k population e were l is old = record {
  len = were.len;
  none = λ i h z. elim (same_or_not i e) [
    | inl s ↦ absurd (omega (arith, old, subst (λ (j : ℕ). get_or places j 0 ≡ 0) s z))
    | inr n ↦
        let other : one (get_or common k 0) i ≡ 0 = one-other (get_or common k 0) i (λ q. n (q ∙ sym is)) in
        omega (arith, bag-suc common k i l, were.none i h z, other)
  ];
  low = λ i h. omega (arith, were.low i h);
  first = were.first;
}

-- with one element more, another one stands as often as before
same-times : (common : List ℕ) (k i : ℕ) → k < length common → i ≢ get_or common k 0 →
    bag (take (k + 1) common) i ≡ bag (take k common) i
same-times common k i l other = omega (arith, bag-suc common k i l, one-other (get_or common k 0) i other)

-- with an element that wasn't met before, none stands twice that didn't
still-once : (common places : List ℕ) (k population i : ℕ) → AreFirst common k population places →
    k < length common → get_or common k 0 < population → get_or places (get_or common k 0) 0 ≡ 0 →
    bag (take k common) i ≤ 1 → bag (take (k + 1) common) i ≤ 1
still-once common places k population i were l known new so = elim (same_or_not i (get_or common k 0)) [
  | inl s ↦
      let e = get_or common k 0 in
      let here : bag (take (k + 1) common) e ≤ 1 =
      omega (arith, bag-suc common k e l, were.none e known new, one-same e) in
      subst (λ (j : ℕ). bag (take (k + 1) common) j ≤ 1) (sym s) here
  | inr n ↦ omega (arith, same-times common k i l n, so)
]

-- an element that stands in a list is counted
bag-at : (xs : List ℕ) (k e : ℕ) → k < length xs → get_or xs k 0 ≡ e → 1 ≤ bag xs e
bag-at xs k e l is =
    let at : bag (take (k + 1) xs) (get_or xs k 0) ≡ bag (take k xs) (get_or xs k 0) + one (get_or xs k 0) (get_or xs k 0) =
    bag-suc xs k (get_or xs k 0) l in
    let here : 1 ≤ bag xs (get_or xs k 0) =
    omega (arith, at, one-same (get_or xs k 0), bag-take-le (k + 1) xs (get_or xs k 0)) in
    subst (λ (i : ℕ). 1 ≤ bag xs i) is here

-- an element that stands at two places is counted twice
twice-at : (xs : List ℕ) (e i j : ℕ) → i < j → j < length xs → get_or xs i 0 ≡ e → get_or xs j 0 ≡ e → 2 ≤ bag xs e
twice-at xs e i j order within at_first at_second =
    let old : length (take j xs) ≡ j = length-take-le j xs (omega (arith, within)) in
    let a : get_or (take j xs) i 0 ≡ e = get_or-take j xs i 0 order ∙ at_first in
    let before : 1 ≤ bag (take j xs) e = bag-at (take j xs) i e (omega (arith, order, old)) a in
    let at : bag (take (j + 1) xs) e ≡ bag (take j xs) e + one (get_or xs j 0) e = bag-suc xs j e within in
    let one_more : one (get_or xs j 0) e ≡ 1 =
    ap (λ (i : ℕ). one i e) at_second ∙ one-same e in
    omega (arith, before, at, one_more, bag-take-le (j + 1) xs e)

-- one that is counted once stands at one place
one-place : (xs : List ℕ) (e i j : ℕ) → bag xs e ≤ 1 → i < length xs → j < length xs → get_or xs i 0 ≡ e →
    get_or xs j 0 ≡ e → i ≡ j
one-place xs e i j once li lj ai aj = elim (cases_lt i j) [
  | inl h ↦ absurd (omega (arith, once, twice-at xs e i j h lj ai aj))
  | inr h ↦ elim (cases_lt j i) [
    | inl g ↦ absurd (omega (arith, once, twice-at xs e j i g li aj ai))
    | inr g ↦ omega arith
  ]
]

-- one that stands twice does so with one element more
still-double : (common : List ℕ) (k elem first second : ℕ) → k < length common →
    IsLeastDouble (take k common) elem first second →
    ((i : ℕ) → i < elem → bag (take (k + 1) common) i ≤ 1) →
    IsLeastDouble (take (k + 1) common) elem first second
still-double common k elem first second l so least =
    let old : length (take k common) ≡ k = length-take-le k common (omega arith) in
    let new : length (take (k + 1) common) ≡ k + 1 = length-take-le (k + 1) common (omega arith) in
    let below : second < k = omega (arith, so.within, old) in
    let below_first : first < k = omega (arith, so.order, below) in
    let a : get_or (take (k + 1) common) first 0 ≡ get_or (take k common) first 0 =
    get_or-take (k + 1) common first 0 (omega (arith, below_first)) ∙ sym (get_or-take k common first 0 below_first) in
    let b : get_or (take (k + 1) common) second 0 ≡ get_or (take k common) second 0 =
    get_or-take (k + 1) common second 0 (omega (arith, below)) ∙ sym (get_or-take k common second 0 below) in
    record {
      order = so.order;
      within = omega (arith, below, new);
      at_first = a ∙ so.at_first;
      at_second = b ∙ so.at_second;
      first_two = λ p low at.
          let here : p < k = omega (arith, low, below) in
          let c : get_or (take (k + 1) common) p 0 ≡ get_or (take k common) p 0 =
          get_or-take (k + 1) common p 0 (omega (arith, here)) ∙ sym (get_or-take k common p 0 here) in
          so.first_two p low (sym c ∙ at);
      least = least;
    }

-- an element that was met before stands twice
new-double : (common places : List ℕ) (k population b elem first second : ℕ) → AreFirst common k population places →
    k < length common → get_or common k 0 < population → get_or places (get_or common k 0) 0 ≡ suc b →
    elem ≡ get_or common k 0 → first ≡ b → second ≡ k →
    ((i : ℕ) → i < elem → bag (take k common) i ≤ 1) → bag (take k common) (get_or common k 0) ≤ 1 →
    IsLeastDouble (take (k + 1) common) elem first second
new-double common places k population b elem first second were l known old is fi se once alone =
    let e = get_or common k 0 in
    let low : b < k = omega (arith, were.low e known, old) in
    let new : length (take (k + 1) common) ≡ k + 1 = length-take-le (k + 1) common (omega arith) in
    let a : get_or (take (k + 1) common) b 0 ≡ get_or common b 0 =
    get_or-take (k + 1) common b 0 (omega (arith, low)) in
    let c : get_or (take (k + 1) common) k 0 ≡ get_or common k 0 =
    get_or-take (k + 1) common k 0 (omega arith) in
    record {
      order = omega (arith, low, fi, se);
      within = omega (arith, new, se);
      at_first = ap (λ (j : ℕ). get_or (take (k + 1) common) j 0) fi ∙ a ∙ were.first e b known old ∙ sym is;
      at_second = ap (λ (j : ℕ). get_or (take (k + 1) common) j 0) se ∙ c ∙ sym is;
      first_two = λ p below at.
          let here : p < k = omega (arith, below, se) in
          let len : length (take k common) ≡ k = length-take-le k common (omega arith) in
          let x : get_or (take k common) p 0 ≡ e =
          get_or-take k common p 0 here ∙ sym (get_or-take (k + 1) common p 0 (omega (arith, here))) ∙ at ∙ is in
          let y : get_or (take k common) b 0 ≡ e = get_or-take k common b 0 low ∙ were.first e b known old in
          one-place (take k common) e p b alone (omega (arith, here, len)) (omega (arith, low, len)) x y ∙ sym fi;
      least = λ i h.
          let other : i ≢ e = (λ q. omega (arith, h, is, q)) in
          omega (arith, same-times common k i l other, once i h);
    }

-- the least one stays it where an element is met for the first time
pub least-met : (common places : List ℕ) (k population : ℕ) (least : Option Double) →
    AreFirst common k population places → k < length common → get_or common k 0 < population →
    get_or places (get_or common k 0) 0 ≡ 0 → IsLeastOf common k least → IsLeastOf common (k + 1) least
least-met common places k population None were l known new so =
    λ i. still-once common places k population i were l known new (so i)
least-met common places k population (Some d) were l known new so =
    still-double common k d.elem d.first d.second l so
    (λ i h. still-once common places k population i were l known new (so.least i h))

-- and where one is met again, the lesser of both is
pub least-again : (common places : List ℕ) (k population b : ℕ) (least : Option Double) (other : Double) →
    AreFirst common k population places → k < length common → get_or common k 0 < population →
    get_or places (get_or common k 0) 0 ≡ suc b → other.elem ≡ get_or common k 0 → other.first ≡ b → other.second ≡ k →
    IsLeastOf common k least → IsLeastOf common (k + 1) (lesser_of least other)
least-again common places k population b None other were l known old el fi se so =
    new-double common places k population b other.elem other.first other.second were l known old el fi se (λ i h. so i) (so (get_or common k 0))
least-again common places k population b (Some d) other were l known old el fi se so =
    elim (cases_Bool (nat_le d.elem other.elem)) [
      | inl t ↦
          let le : d.elem ≤ other.elem = grind (arith, nat_tests) in
          rw t (
          still-double common k d.elem d.first d.second l so
          (λ i h.
          let ne : i ≢ get_or common k 0 = (λ q. omega (arith, h, el, q, le)) in
          omega (arith, same-times common k i l ne, so.least i h))
          )
      | inr f ↦
          let lt : other.elem < d.elem = grind (arith, nat_tests) in
          rw f (
          new-double common places k population b other.elem other.first other.second were l known old el fi se
          (λ i h. so.least i (omega (arith, h, lt))) (so.least (get_or common k 0) (omega (arith, lt, el)))
          )
    ]

-- the least element that stands twice is counted twice
pub double-twice : (xs : List ℕ) (e first second : ℕ) → IsLeastDouble xs e first second → 2 ≤ bag xs e
double-twice xs e first second d =
    let old : length (take second xs) ≡ second = length-take-le second xs (omega (arith, d.within)) in
    let a : get_or (take second xs) first 0 ≡ e = get_or-take second xs first 0 d.order ∙ d.at_first in
    let before : 1 ≤ bag (take second xs) e = bag-at (take second xs) first e (omega (arith, d.order, old)) a in
    let at : bag (take (second + 1) xs) e ≡ bag (take second xs) e + one (get_or xs second 0) e = bag-suc xs second e d.within in
    let one_more : one (get_or xs second 0) e ≡ 1 =
    ap (λ (i : ℕ). one i e) d.at_second ∙ one-same e in
    omega (arith, before, at, one_more, bag-take-le (second + 1) xs e)

-- of a whole list, the least one is the list's own
pub least-whole : (xs : List ℕ) (e first second : ℕ) → IsLeastDouble (take (length xs) xs) e first second →
    IsLeastDouble xs e first second
least-whole xs e first second d = subst (λ (ys : List ℕ). IsLeastDouble ys e first second) (take-length xs) d
