-- The steps at places keep the rule, and answer their seat what their contracts say.
use Rattle.std.proofs.Common.{◌≡◌, ◌≢◌, ◌⊎◌, ℕ, zero, suc, ◌+◌, ◌<◌, ◌≤◌, List, [], ◌∷◌, length, set, refl, sym, ap, ◌∙◌, subst, ⊎_elim, inl, inr, arith}
use Rattle.std.specs.Prelude.{◌==◌, replicate}
use Rattle.std.proofs.lemmas.Bool.{cases_eq, cases_lt, cond_both, eqb-true, eqb-false}
use mathlib.Core.Option.{some, none}
use lib.ListN.{get_elem?}
use Rattle.atomic_table.specs.Table.{step, keeps, stepped, Allows}
use Rattle.commons.specs.Bag.{bag, one}
use Rattle.commons.proofs.Bags.{bag-nil, bag-cons, one-same}
use Rattle.depot.specs.declared.view.Resting.{Resting}
use Rattle.depot.specs.declared.view.Shape.{Shape}
use Rattle.depot.specs.declared.view.View.{View}
use Rattle.depot.specs.Bags.{without, below}
use Rattle.depot.specs.Layout.{place_at, place_in}
use Rattle.depot.specs.Placing.{resting_out, resting_in, rests_out, rests_in}
use Rattle.depot.specs.Resting.{numbers, out_at, rests, out_with, wiped, IsNumber}
use Rattle.depot.specs.Rule.{Sat, Depoted, hand_of, Ruled}
use Rattle.depot.proofs.Bags.{bag-without, below-le, below-at, below-past, one-cases}
pub use Rattle.depot.proofs.Bags.{one-other}
use Rattle.depot.proofs.Guarding.{out-most, out-only}
use Rattle.depot.proofs.Totals.{sum-set, sum-one}
use Rattle.depot.proofs.Placing.{Counts, IsKept, Moves, place-kept, place-new, place-else}

-- of what is wiped nothing is left, and of all else as much
pub bag-wiped : (x y : ℕ) (xs : List ℕ) → ((y ≡ x) × (bag (wiped y xs) x ≡ 0))
    ⊎ ((y ≢ x) × (bag (wiped y xs) x ≡ bag xs x))
unfolding wiped
bag-wiped x y [] = ⊎_elim (λ e. inl (e, bag-nil x)) (λ n. inr (n, refl)) (cases_eq y x)
bag-wiped x y (z ∷ zs) =
    let more = bag-wiped x y zs in
    let c = bag-cons z zs x in
    let d = bag-cons z (wiped y zs) x in
    cond_both (z == y) (wiped y zs) (z ∷ wiped y zs)
    (λ l. ((y ≡ x) × (bag l x ≡ 0)) ⊎ ((y ≢ x) × (bag l x ≡ bag (z ∷ zs) x)))
    (λ e. ⊎_elim inl
    (λ h. inr (
      h.0,
      let n : one z x ≡ 0 =
          ⊎_elim (λ a. absurd (h.0 (sym (eqb-true z y e) ∙ a.0))) (λ b. b.1) (one-cases z x) in
          let m = h.1 in omega arith,
    )) more)
    (λ e. ⊎_elim
    (λ h. inl (
      h.0,
      let n : one z x ≡ 0 =
          ⊎_elim (λ a. absurd (eqb-false z y e (a.0 ∙ sym h.0))) (λ b. b.1) (one-cases z x) in
          let m = h.1 in omega arith,
    ))
    (λ h. inr (h.0, let m = h.1 in omega arith)) more)

pub wiped-same : (x : ℕ) (xs : List ℕ) → bag (wiped x xs) x ≡ 0
wiped-same x xs = ⊎_elim (λ h. h.1) (λ h. absurd (h.0 refl)) (bag-wiped x x xs)

pub wiped-other : (x y : ℕ) (xs : List ℕ) → x ≢ y → bag (wiped y xs) x ≡ bag xs x
wiped-other x y xs n = ⊎_elim (λ h. absurd (n (sym h.0))) (λ h. h.1) (bag-wiped x y xs)

pub times-same : (n x : ℕ) → bag (replicate n x) x ≡ n
times-same zero x = bag-nil x
times-same (suc n) x =
    let more = times-same n x in let c = bag-cons x (replicate n x) x in let e = one-same x in
    let goal : bag (x ∷ replicate n x) x ≡ suc n = omega arith in goal

pub times-other : (n x y : ℕ) → x ≢ y → bag (replicate n y) x ≡ 0
times-other zero x y h = bag-nil x
times-other (suc n) x y h =
    let more = times-other n x y h in let c = bag-cons y (replicate n y) x in
    let e = one-other x y h in
    let goal : bag (y ∷ replicate n y) x ≡ 0 = omega arith in goal

-- the numbers of a seat that has one
pub its-number : (r : Resting) (k : ℕ) → IsNumber r k → numbers r k ≡ 1
its-number r k is =
    let a : below r.from k ≡ 0 = ap (λ (n : ℕ). below n k) is.from ∙ below-past k k (omega arith) in
    let b : below r.to k ≡ 1 = ap (λ (n : ℕ). below n k) is.to ∙ below-at (suc k) k (omega arith) in
    omega arith

pub only-number : (r : Resting) (k j : ℕ) → IsNumber r k → 0 < numbers r j → j ≡ k
only-number r k j is some_there =
    ⊎_elim (λ (e : j ≡ k). e)
    (λ n.
    let most : below r.to j ≤ 1 = below-le r.to j in
    ⊎_elim (λ (less : j < k).
    let a : below r.from j ≡ 1 = ap (λ (m : ℕ). below m j) is.from ∙ below-at k j less in
    absurd (omega arith))
    (λ (past : k ≤ j).
    let b : below r.to j ≡ 0 =
    ap (λ (m : ℕ). below m j) is.to
    ∙ below-past (suc k) j (⊎_elim (λ l. l) (λ g. absurd (n (omega arith))) (cases_lt k j)) in
    absurd (omega arith)) (cases_lt j k)) (cases_eq j k)

module _ (p : Shape) (s : Depoted) (r : Ruled p s) (id : ℕ) (me : Sat)
    (at : get_elem? s.views id ≡ some me.0)
    (i : ℕ) (inside : i < p.places) where
  abbrev slots : ℕ
  slots = length s.homes

  abbrev here : ℕ
  here = place_in s.words slots i

  abbrev place : ℕ
  place = place_at slots i

  -- where nobody's number is at its place, an element isn't out
  pub none-out : out_with s.views 0 i ≡ 0
  none-out = let most = out-most s.views 0 i in let none = r.guarded.nobody in omega arith

  -- an element of a hand rests nowhere
  hand-rests : 0 < bag me.0.hand i → here ≡ 0
  hand-rests there =
      let all = r.elements i in
      let most = below-le p.population i in
      let one_of = sum-one (λ (v : View). bag (hand_of v) i) s.views id me.0 at in
      let has : 0 < bag (hand_of me.0) i = there in
      omega arith

  -- 0 is no seat's number
  number-some : (k : ℕ) → numbers me.0.resting k ≡ 1 → 0 < k
  number-some zero is =
      let none = r.guarded.nobody in
      let one_of = sum-one (λ (v : View). numbers v.resting 0) s.views id me.0 at in
      absurd (omega arith)
  number-some (suc k) is = omega arith

  -- once its number is at the place of an element
  out-moves : (k : ℕ) → numbers me.0.resting k ≡ 1 → here ≡ 0 →
      Moves slots s.words (set s.words place k) s.views id me.0 (resting_out me.0 i) i
  out-moves k mine_k nothing =
      let v = me.0 in
      let w = resting_out v i in
      let new = set s.words place k in
      let is : place_in new slots i ≡ k = place-new p s r id me at i k inside in
      record {
        same_numbers = λ j. refl;
        else = place-else p s r id me at i k inside;
        here = inr (inl (subst (λ (n : ℕ). numbers v.resting n ≡ 1) (sym is) mine_k));
        counts =
            let gets = sum-set (λ (u : View). bag u.resting.gets i) s.views id v w at in
            let puts = sum-set (λ (u : View). bag u.resting.puts i) s.views id v w at in
            let outs = sum-set (λ (u : View). out_at u.resting k i) s.views id v w at in
            let one_more = bag-cons i v.resting.gets i in
            let marked = bag-cons i v.resting.marks i in
            let once = one-same i in
            let only = out-only s.views id v k i at (let most = r.guarded.once k in omega arith) in
            let old = subst (Counts s.views i) nothing (r.guarded.counts i) in
            let none = none-out in
            let goal : Counts (set s.views id w) i k = omega arith in
            subst (Counts (set s.views id w) i) (sym is) goal;
        others = λ j n apart.
            let a = bag-cons i v.resting.gets j in let b = bag-cons i v.resting.marks j in
            let none = one-other j i apart in omega arith;
        its = λ n j own there. ⊎_elim
            (λ (e : j ≡ i). subst (IsKept w.resting) (sym e)
            (let b = bag-cons i v.resting.marks i in let once = one-same i in omega arith))
            (λ (apart : j ≢ i).
            let old = r.guarded.keeps id v at n j own
            (sym (place-else p s r id me at i k inside j apart) ∙ there) in
            let b = bag-cons i v.resting.marks j in omega arith) (cases_eq j i);
      }

  in-moves : (k : ℕ) → numbers me.0.resting k ≡ 1 → here ≡ 0 →
      Moves slots s.words (set s.words place k) s.views id me.0 (resting_in me.0 i) i
  in-moves k mine_k nothing =
      let v = me.0 in
      let w = resting_in v i in
      let new = set s.words place k in
      let is : place_in new slots i ≡ k = place-new p s r id me at i k inside in
      record {
        same_numbers = λ j. refl;
        else = place-else p s r id me at i k inside;
        here = inr (inl (subst (λ (n : ℕ). numbers v.resting n ≡ 1) (sym is) mine_k));
        counts =
            let gets = sum-set (λ (u : View). bag u.resting.gets i) s.views id v w at in
            let puts = sum-set (λ (u : View). bag u.resting.puts i) s.views id v w at in
            let outs = sum-set (λ (u : View). out_at u.resting k i) s.views id v w at in
            let wiped_it = wiped-same i v.resting.marks in
            let only = out-only s.views id v k i at (let most = r.guarded.once k in omega arith) in
            let old = subst (Counts s.views i) nothing (r.guarded.counts i) in
            let none = none-out in
            let goal : Counts (set s.views id w) i k = omega arith in
            subst (Counts (set s.views id w) i) (sym is) goal;
        others = λ j n apart. let b = wiped-other j i v.resting.marks apart in omega arith;
        its = λ n j own there. ⊎_elim
            (λ (e : j ≡ i). subst (IsKept w.resting) (sym e)
            (let b = bag-cons i v.resting.listed i in let once = one-same i in omega arith))
            (λ (apart : j ≢ i).
            let old = r.guarded.keeps id v at n j own
            (sym (place-else p s r id me at i k inside j apart) ∙ there) in
            let a = wiped-other j i v.resting.marks apart in
            let b = bag-cons i v.resting.listed j in omega arith) (cases_eq j i);
      }

  -- what leaves the hand rests, or the other way round
  leaves : (x : ℕ) → 0 < x → 0 < bag me.0.hand i → here ≡ 0 → (j : ℕ) →
      bag (without i me.0.hand) j + rests (place_in (set s.words place x) slots j)
      ≡ bag me.0.hand j + rests (place_in s.words slots j)
  leaves x some_x there nothing j =
      let new = set s.words place x in
      let less = bag-without j i me.0.hand in
      ⊎_elim
      (λ (e : j ≡ i).
      let now : place_in new slots j ≡ x = ap (λ (y : ℕ). place_in new slots y) e
      ∙ place-new p s r id me at i x inside in
      let was : place_in s.words slots j ≡ 0 = ap (λ (y : ℕ). place_in s.words slots y) e
      ∙ nothing in
      let once : one i j ≡ 1 = ap (λ (y : ℕ). one i y) e ∙ one-same i in
      let has : 0 < bag me.0.hand j = subst (λ (y : ℕ). 0 < bag me.0.hand y) (sym e) there in
      omega arith)
      (λ (n : j ≢ i).
      let same = place-else p s r id me at i x inside j n in
      let none = one-other j i n in omega arith) (cases_eq j i)

  pub comes : 0 < here → (j : ℕ) →
      bag (i ∷ me.0.hand) j + rests (place_in (set s.words place 0) slots j)
      ≡ bag me.0.hand j + rests (place_in s.words slots j)
  comes some_there j =
      let new = set s.words place 0 in
      let more = bag-cons i me.0.hand j in
      ⊎_elim
      (λ (e : j ≡ i).
      let now : place_in new slots j ≡ 0 = ap (λ (y : ℕ). place_in new slots y) e
      ∙ place-new p s r id me at i 0 inside in
      let was : place_in s.words slots j ≡ here = ap (λ (y : ℕ). place_in s.words slots y) e in
      let once : one i j ≡ 1 = ap (λ (y : ℕ). one i y) e ∙ one-same i in
      omega arith)
      (λ (n : j ≢ i).
      let same = place-else p s r id me at i 0 inside j n in
      let none = one-other j i n in omega arith) (cases_eq j i)

  pub out-kept : (k : ℕ) → numbers me.0.resting k ≡ 1 → 0 < bag me.0.hand i →
      Ruled p (stepped s place k id me.1 (resting_out me.0 i) keeps)
  out-kept k mine_k there =
      place-kept p s r id me at i k inside (resting_out me.0 i) refl refl refl refl refl
      (leaves k (number-some k mine_k) there (hand-rests there))
      (out-moves k mine_k (hand-rests there))

  pub in-kept : (k : ℕ) → numbers me.0.resting k ≡ 1 → 0 < bag me.0.hand i →
      Ruled p (stepped s place k id me.1 (resting_in me.0 i) keeps)
  in-kept k mine_k there =
      place-kept p s r id me at i k inside (resting_in me.0 i) refl refl refl refl refl
      (leaves k (number-some k mine_k) there (hand-rests there))
      (in-moves k mine_k (hand-rests there))

-- the stores that let an element of the hand rest
pub outs : (p : Shape) (slots id : ℕ) (me : Sat) (i k word : ℕ) → i < p.places →
    numbers me.0.resting k ≡ 1 → 0 < bag me.0.hand i →
    word ≡ place_at slots i →
    Allows (Ruled p) slots id me word (λ _. k) (λ _. rests_out (step slots word k 0 none) me k)
outs p slots id me i k word inside mine_k there is s r many at small =
    let same : word ≡ place_at (length s.homes) i = is
    ∙ ap (λ (n : ℕ). place_at n i) (sym many) in (
      resting_out me.0 i,
      keeps,
      tt,
      subst (λ (x : ℕ). Ruled p (stepped s x k id me.1 (resting_out me.0 i) keeps)) (sym same)
          (out-kept p s r id me at i inside k mine_k there),
      ap (λ (x : ℕ). (resting_out me.0 x, me.1)) (omega arith),
    )

pub ins : (p : Shape) (slots id : ℕ) (me : Sat) (i k word : ℕ) → i < p.places →
    numbers me.0.resting k ≡ 1 → 0 < bag me.0.hand i →
    word ≡ place_at slots i →
    Allows (Ruled p) slots id me word (λ _. k) (λ _. rests_in (step slots word k 0 none) me k)
ins p slots id me i k word inside mine_k there is s r many at small =
    let same : word ≡ place_at (length s.homes) i = is
    ∙ ap (λ (n : ℕ). place_at n i) (sym many) in (
      resting_in me.0 i,
      keeps,
      tt,
      subst (λ (x : ℕ). Ruled p (stepped s x k id me.1 (resting_in me.0 i) keeps)) (sym same)
          (in-kept p s r id me at i inside k mine_k there),
      ap (λ (x : ℕ). (resting_in me.0 x, me.1)) (omega arith),
    )
