-- Sums over the seats' views or over the slots, once one of them is changed.
use Rattle.std.proofs.Common.{◌≡◌, ℕ, zero, suc, ◌+◌, ◌≤◌, ◌≢◌, List, [], ◌∷◌, ◌++◌, set, refl, sym, ap, arith}
use Rattle.std.specs.Prelude.{sum_by}
use Rattle.std.proofs.lemmas.List.Sums.{sum_by-cons, sum_by-append}
use mathlib.Core.Option.{some, some-injective, some-ne-none}
use lib.ListN.{get_elem?}

module _ {X : Type 0} (f : X → ℕ) where
  -- one of them is another one now
  pub sum-set : (xs : List X) (i : ℕ) (x y : X) → get_elem? xs i ≡ some x →
      sum_by f (set xs i y) + f x ≡ sum_by f xs + f y
  sum-set [] i x y e = absurd (some-ne-none x (sym e))
  sum-set (z ∷ zs) zero x y e =
      let same : f z ≡ f x = ap f (some-injective z x e) in
      let goal : sum_by f (y ∷ zs) + f x ≡ sum_by f (z ∷ zs) + f y =
      omega (arith, sum_by-cons f y zs, sum_by-cons f z zs) in
      goal
  sum-set (z ∷ zs) (suc i) x y e =
      let more = sum-set zs i x y e in
      let goal : sum_by f (z ∷ set zs i y) + f x ≡ sum_by f (z ∷ zs) + f y =
      omega (arith, sum_by-cons f z zs, sum_by-cons f z (set zs i y)) in
      goal

  -- one of them, and two
  pub sum-one : (xs : List X) (i : ℕ) (x : X) → get_elem? xs i ≡ some x → f x ≤ sum_by f xs
  sum-one [] i x e = absurd (some-ne-none x (sym e))
  sum-one (z ∷ zs) zero x e =
      let same : f z ≡ f x = ap f (some-injective z x e) in omega (arith, sum_by-cons f z zs)
  sum-one (z ∷ zs) (suc i) x e =
      let more = sum-one zs i x e in omega (arith, sum_by-cons f z zs)

  pub sum-two : (xs : List X) (i j : ℕ) (x y : X) → i ≢ j → get_elem? xs i ≡ some x →
      get_elem? xs j ≡ some y → f x + f y ≤ sum_by f xs
  sum-two [] i j x y n e d = absurd (some-ne-none x (sym e))
  sum-two (z ∷ zs) zero zero x y n e d = absurd (n refl)
  sum-two (z ∷ zs) zero (suc j) x y n e d =
      let same : f z ≡ f x = ap f (some-injective z x e) in
      let more = sum-one zs j y d in
      omega (arith, sum_by-cons f z zs)
  sum-two (z ∷ zs) (suc i) zero x y n e d =
      let same : f z ≡ f y = ap f (some-injective z y d) in
      let more = sum-one zs i x e in
      omega (arith, sum_by-cons f z zs)
  sum-two (z ∷ zs) (suc i) (suc j) x y n e d =
      let more = sum-two zs i j x y (λ h. n (ap suc h)) e d in
      omega (arith, sum_by-cons f z zs)

  -- one more behind them
  pub sum-last : (xs : List X) (x : X) → sum_by f (xs ++ x ∷ []) ≡ sum_by f xs + f x
  sum-last xs x = omega (arith, sum_by-append f xs (x ∷ []), sum_by-cons f x [])
