-- What a segment of a packet holds.
use Rattle.std.proofs.Common.{◌≡◌, ◌≢◌, ◌==◌, ℕ, ◌<◌, ◌≤◌, ⊎_elim, true, Option, Some, None, List, [], ◌∷◌, ◌++◌, sym, subst, arith}
use Rattle.std.proofs.lemmas.Bool.{cond-false, cases_eq, ne_eqb, ltb-true}
use Rattle.commons.specs.Bag.{bag, one}
use Rattle.commons.proofs.Bags.{bag-cons, bag-single, one-same}
use Rattle.commons.specs.Packets.{holds_of_packet, hold_of}
use Rattle.commons.specs.declared.packet.Seg.{Seg}
use Rattle.step_core.specs.Bags.{has, Includes}
use Rattle.step_core.specs.Headers.{OwnsHeaders}
use Rattle.step_core.specs.declared.view.View.{View}

other : (e i : ℕ) → e ≢ i → one e i ≡ 0
other e i n = cond-false (e == i) 1 0 (ne_eqb e i n)

one_few : (e i : ℕ) → one e i ≤ 1
one_few e i = ⊎_elim
    (λ (s : e ≡ i). subst (λ (k : ℕ). one e k ≤ 1) s (omega (arith, one-same e)))
    (λ (n : e ≢ i). let z = other e i n in omega arith) (cases_eq e i)

-- what stands in a list of one element, or of two, is below what these are below
below_one : (n e i : ℕ) → e < n → 0 < bag (e ∷ []) i → i < n
below_one n e i less h = ⊎_elim
    (λ (s : e ≡ i). subst (λ (k : ℕ). k < n) s less)
    (λ (d : e ≢ i). let z = other e i d in absurd (omega (arith, bag-single e i))) (cases_eq e i)

below_two : (n b e i : ℕ) → b < n → e < n → 0 < bag (b ∷ e ∷ []) i → i < n
below_two n b e i first second h = ⊎_elim
    (λ (s : b ≡ i). subst (λ (k : ℕ). k < n) s first)
    (λ (d : b ≢ i). let z = other b i d in
    let rest : 0 < bag (e ∷ []) i = omega (arith, bag-cons b (e ∷ []) i) in
    below_one n e i second rest) (cases_eq b i)

pub direct_below : (seg : Seg) (n : ℕ) → seg.base ≡ None → seg.elem < n → (i : ℕ) →
    0 < bag (holds_of_packet (seg ∷ [])) i → i < n
direct_below seg n e less i h =
    below_one n seg.elem i less
    (subst (λ (b : Option ℕ). 0 < bag ((hold_of b ++ seg.elem ∷ []) ++ []) i) e h)

pub indirect_below : (seg : Seg) (b n : ℕ) → seg.base ≡ Some b → b < n → seg.elem < n → (i : ℕ) →
    0 < bag (holds_of_packet (seg ∷ [])) i → i < n
indirect_below seg b n e first second i h =
    below_two n b seg.elem i first second
    (subst (λ (x : Option ℕ). 0 < bag ((hold_of x ++ seg.elem ∷ []) ++ []) i) e h)

-- a list that has an element, or two that differ, includes these
has_one : (xs : List ℕ) (e : ℕ) → has xs e ≡ true → Includes xs (e ∷ [])
has_one xs e h i = ⊎_elim
    (λ (s : e ≡ i). subst (λ (k : ℕ). bag (e ∷ []) k ≤ bag xs k) s
    (let some = ltb-true 0 (bag xs e) h in omega (arith, bag-single e e, one-same e)))
    (λ (d : e ≢ i). let z = other e i d in omega (arith, bag-single e i)) (cases_eq e i)

has_two : (xs : List ℕ) (b e : ℕ) → b ≢ e → has xs b ≡ true → has xs e ≡ true →
    Includes xs (b ∷ e ∷ [])
has_two xs b e differ first second i = ⊎_elim
    (λ (s : b ≡ i). subst (λ (k : ℕ). bag (b ∷ e ∷ []) k ≤ bag xs k) s
    (let some = ltb-true 0 (bag xs b) first in
    let z = other e b (λ same. differ (sym same)) in
    omega (arith, bag-cons b (e ∷ []) b, bag-single e b, one-same b)))
    (λ (d : b ≢ i). let z = other b i d in
    let m = has_one xs e second i in
    omega (arith, bag-cons b (e ∷ []) i)) (cases_eq b i)

pub direct_held : (v : View) (seg : Seg) → seg.base ≡ None → has v.holds seg.elem ≡ true →
    Includes v.holds (holds_of_packet (seg ∷ []))
direct_held v seg e h =
    subst (λ (b : Option ℕ). Includes v.holds ((hold_of b ++ seg.elem ∷ []) ++ [])) (sym e)
    (has_one v.holds seg.elem h)

pub indirect_held : (v : View) (seg : Seg) (b : ℕ) → seg.base ≡ Some b → b ≢ seg.elem →
    has v.holds b ≡ true → has v.holds seg.elem ≡ true →
    Includes v.holds (holds_of_packet (seg ∷ []))
indirect_held v seg b e differ first second =
    subst (λ (x : Option ℕ). Includes v.holds ((hold_of x ++ seg.elem ∷ []) ++ [])) (sym e)
    (has_two v.holds b seg.elem differ first second)

-- the one own element is a header
pub owns_one : (v : View) (seg : Seg) → has v.headers seg.elem ≡ true → OwnsHeaders v (seg ∷ [])
owns_one v seg h = (
  λ i. let few = one_few seg.elem i in omega (arith, bag-single seg.elem i),
  has_one v.headers seg.elem h,
)
