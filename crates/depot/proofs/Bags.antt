-- How often a number is in a list, after what is done to the list.
use Rattle.std.proofs.Common.{◌≡◌, ℕ, ◌-◌, ◌<◌, ◌≤◌, ◌≢◌, ◌⊎◌, List, [], ◌∷◌, sym, ap, ◌∙◌, arith, inl, inr, ⊎_elim}
use Rattle.std.specs.Prelude.{◌==◌}
use Rattle.std.proofs.lemmas.Bool.{cases_eq, cond_both, cond-true, cond-false, eqb-true, eqb-false, eq-eqb, ne_eqb, cases_lt, lt-ltb, le-ltb}
use Rattle.commons.specs.Bag.{bag, one}
use Rattle.commons.proofs.Bags.{bag-nil, bag-cons}
use Rattle.depot.specs.Bags.{without, minus, below}

-- one number, or two
pub one-cases : (y x : ℕ) → ((y ≡ x) × (one y x ≡ 1)) ⊎ ((y ≢ x) × (one y x ≡ 0))
one-cases y x =
    ⊎_elim (λ e. inl (e, cond-true (y == x) 1 0 (eq-eqb y x e)))
    (λ n. inr (n, cond-false (y == x) 1 0 (ne_eqb y x n))) (cases_eq y x)

pub one-other : (x y : ℕ) → x ≢ y → one y x ≡ 0
one-other x y n = ⊎_elim (λ a. absurd (n (sym a.0))) (λ b. b.1) (one-cases y x)

pub bag-without : (x y : ℕ) (xs : List ℕ) → bag (without y xs) x ≡ bag xs x - one y x
unfolding without
bag-without x y [] = omega (arith, bag-nil x)
bag-without x y (z ∷ zs) =
    let more : bag (without y zs) x ≡ bag zs x - one y x = bag-without x y zs in
    let c = bag-cons z zs x in
    let d = bag-cons z (without y zs) x in
    cond_both (z == y) zs (z ∷ without y zs) (λ l. bag l x ≡ bag (z ∷ zs) x - one y x)
    (λ e. let same : one z x ≡ one y x = ap (λ a. one a x) (eqb-true z y e) in omega arith)
    (λ e.
    ⊎_elim (λ a.
    ⊎_elim (λ b. absurd (eqb-false z y e (a.0 ∙ sym b.0)))
    (λ b. let h = b.1 in omega arith) (one-cases y x))
    (λ a. let h = a.1 in omega arith) (one-cases z x))

pub bag-minus : (x : ℕ) (xs ys : List ℕ) → bag (minus xs ys) x ≡ bag xs x - bag ys x
unfolding minus
bag-minus x xs [] = omega (arith, bag-nil x)
bag-minus x xs (y ∷ ys) = omega (arith, bag-minus x (without y xs) ys, bag-without x y xs, bag-cons y ys x)

pub below-at : (n x : ℕ) → x < n → below n x ≡ 1
unfolding below
below-at n x h = cond-true _ 1 0 (lt-ltb x n h)

pub below-past : (n x : ℕ) → n ≤ x → below n x ≡ 0
unfolding below
below-past n x h = cond-false _ 1 0 (le-ltb x n h)

pub below-le : (n x : ℕ) → below n x ≤ 1
below-le n x = ⊎_elim (λ h. omega (arith, below-at n x h)) (λ h. omega (arith, below-past n x h)) (cases_lt x n)

-- where a number is below n if it is there once
pub below-inside : (n x : ℕ) → 0 < below n x → x < n
below-inside n x h = ⊎_elim (λ a. a) (λ b. absurd (omega (arith, below-past n x b))) (cases_lt x n)
