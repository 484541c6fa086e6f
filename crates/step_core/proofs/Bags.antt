-- How often a number is in a list, after what is done to the list.
use Rattle.std.proofs.Common.{◌≡◌, ℕ, ◌+◌, ◌-◌, ◌<◌, ◌≤◌, ◌≢◌, ◌⊎◌, true, List, [], ◌∷◌, ◌++◌, length, refl, sym, ap, ◌∙◌, subst, arith, inl, inr, ⊎_elim}
use Rattle.std.specs.Prelude.{◌==◌}
use Rattle.std.proofs.lemmas.Bool.{cases_eq, cond_both, cond-true, cond-false, eqb-true, eqb-false, eq-eqb, ne_eqb, cases_lt, lt-ltb, le-ltb, ltb-true, leb-true, and_parts}
use Rattle.commons.specs.Bag.{bag}
use Rattle.commons.proofs.Bags.{bag-nil, bag-cons, bag-append}
use Rattle.step_core.specs.Bags.{one_if, without, minus, below, all_below, includes_from, includes, Includes}

pub times-nil : (x : ℕ) → bag [] x ≡ 0
times-nil x = bag-nil x

pub times-cons : (x y : ℕ) (ys : List ℕ) → bag (y ∷ ys) x ≡ one_if (y == x) + bag ys x
times-cons x y ys = bag-cons y ys x

-- one number, or two
pub one_if-cases : (y x : ℕ) → ((y ≡ x) × (one_if (y == x) ≡ 1)) ⊎ ((y ≢ x) × (one_if (y == x) ≡ 0))
one_if-cases y x =
    ⊎_elim (λ e. inl (e, cond-true (y == x) 1 0 (eq-eqb y x e)))
    (λ n. inr (n, cond-false (y == x) 1 0 (ne_eqb y x n))) (cases_eq y x)

pub times-head : (x : ℕ) (ys : List ℕ) → bag (x ∷ ys) x ≡ 1 + bag ys x
times-head x ys = times-cons x x ys ∙ ap (λ b. one_if b + bag ys x) (eq-eqb x x refl)

pub times-other : (x y : ℕ) (ys : List ℕ) → y ≢ x → bag (y ∷ ys) x ≡ bag ys x
times-other x y ys n = times-cons x y ys ∙ (ap (λ b. one_if b + bag ys x) (ne_eqb y x n) ∙ omega arith)

pub times-one : (x : ℕ) → bag (x ∷ []) x ≡ 1
times-one x = omega (arith, times-head x [], times-nil x)

pub times-not_one : (x y : ℕ) → y ≢ x → bag (y ∷ []) x ≡ 0
times-not_one x y n = times-other x y [] n ∙ times-nil x

pub times-append : (x : ℕ) (xs ys : List ℕ) → bag (xs ++ ys) x ≡ bag xs x + bag ys x
times-append x xs ys = bag-append xs ys x

-- one more at the end
pub times-push : (x y : ℕ) (xs : List ℕ) → bag (xs ++ y ∷ []) x ≡ one_if (y == x) + bag xs x
times-push x y xs = omega (arith, times-append x xs (y ∷ []), times-cons x y [], times-nil x)

pub times-last : (x : ℕ) (xs : List ℕ) → bag (xs ++ x ∷ []) x ≡ 1 + bag xs x
times-last x xs = omega (arith, times-append x xs (x ∷ []), times-one x)

pub times-but_last : (x y : ℕ) (xs : List ℕ) → y ≢ x → bag (xs ++ y ∷ []) x ≡ bag xs x
times-but_last x y xs n = omega (arith, times-append x xs (y ∷ []), times-not_one x y n)

pub times-without : (x y : ℕ) (xs : List ℕ) → bag (without y xs) x ≡ bag xs x - bag (y ∷ []) x
unfolding without
times-without x y [] = omega (arith, times-nil x)
times-without x y (z ∷ zs) =
    let more : bag (without y zs) x ≡ bag zs x - bag (y ∷ []) x = times-without x y zs in
    let c = times-cons x z zs in
    let d = times-cons x z (without y zs) in
    let f = times-cons x y [] in
    let g = times-nil x in
    cond_both (z == y) zs (z ∷ without y zs) (λ l. bag l x ≡ bag (z ∷ zs) x - bag (y ∷ []) x)
    (λ e. let same : one_if (z == x) ≡ one_if (y == x) = ap (λ a. one_if (a == x)) (eqb-true z y e) in omega arith)
    (λ e.
    ⊎_elim (λ a.
    ⊎_elim (λ b. absurd (eqb-false z y e (a.0 ∙ sym b.0)))
    (λ b. let h = b.1 in omega arith) (one_if-cases y x))
    (λ a. let h = a.1 in omega arith) (one_if-cases z x))

pub times-minus : (x : ℕ) (xs ys : List ℕ) → bag (minus xs ys) x ≡ bag xs x - bag ys x
unfolding minus
times-minus x xs [] = omega (arith, times-nil x)
times-minus x xs (y ∷ ys) =
    omega (
      arith,
      times-minus x (without y xs) ys,
      times-without x y xs,
      times-cons x y [],
      times-nil x,
      times-cons x y ys,
    )

pub times-from_length : (x : ℕ) (xs : List ℕ) → length xs ≡ 0 → bag xs x ≡ 0
times-from_length x [] e = times-nil x
times-from_length x (y ∷ ys) e = absurd (omega arith)

pub below-at : (n x : ℕ) → x < n → below n x ≡ 1
unfolding below
below-at n x h = ap one_if (lt-ltb x n h)

pub below-past : (n x : ℕ) → n ≤ x → below n x ≡ 0
unfolding below
below-past n x h = ap one_if (le-ltb x n h)

pub below-le : (n x : ℕ) → below n x ≤ 1
below-le n x = ⊎_elim (λ h. omega (arith, below-at n x h)) (λ h. omega (arith, below-past n x h)) (cases_lt x n)

pub times-without_here : (x : ℕ) (xs : List ℕ) → bag (without x xs) x ≡ bag xs x - 1
times-without_here x xs = omega (arith, times-without x x xs, times-one x)

pub times-without_other : (x y : ℕ) (xs : List ℕ) → y ≢ x → bag (without y xs) x ≡ bag xs x
times-without_other x y xs n = omega (arith, times-without x y xs, times-not_one x y n)

-- at one number, and at every other
pub at_or_else : (i : ℕ) (P : ℕ → Type 0) → P i → ((x : ℕ) → i ≢ x → P x) → (x : ℕ) → P x
at_or_else i P here else x = ⊎_elim (λ (e : i ≡ x). subst P e here) (λ (n : i ≢ x). else x n) (cases_eq i x)

-- the test of inclusion
includes_at : (xs ys zs : List ℕ) (i : ℕ) → includes_from xs ys zs ≡ true → 0 < bag zs i → bag ys i ≤ bag xs i
includes_at xs ys [] i e h = absurd (omega (arith, times-nil i))
includes_at xs ys (z ∷ zs) i e h =
    let both = and_parts _ _ e in
    ⊎_elim
    (λ (s : (z ≡ i) × (one_if (z == i) ≡ 1)). subst (λ (a : ℕ). bag ys a ≤ bag xs a) s.0 (leb-true _ _ both.0))
    (λ (s : (z ≢ i) × (one_if (z == i) ≡ 0)). includes_at xs ys zs i both.1 (omega (arith, times-other i z zs s.0)))
    (one_if-cases z i)

pub includes_true : (xs ys : List ℕ) → includes xs ys ≡ true → Includes xs ys
includes_true xs ys e i = ⊎_elim
    (λ (l : 0 < bag ys i). includes_at xs ys ys i e l)
    (λ (l : bag ys i ≤ 0). omega arith)
    (cases_lt 0 (bag ys i))

pub all_below_true : (n : ℕ) (xs : List ℕ) (i : ℕ) → all_below n xs ≡ true → 0 < bag xs i → i < n
all_below_true n [] i e h = absurd (omega (arith, times-nil i))
all_below_true n (x ∷ xs) i e h =
    let both = and_parts _ _ e in
    ⊎_elim
    (λ (s : (x ≡ i) × (one_if (x == i) ≡ 1)). subst (λ (a : ℕ). a < n) s.0 (ltb-true _ _ both.0))
    (λ (s : (x ≢ i) × (one_if (x == i) ≡ 0)). all_below_true n xs i both.1 (omega (arith, times-other i x xs s.0)))
    (one_if-cases x i)
