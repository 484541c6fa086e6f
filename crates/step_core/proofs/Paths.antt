use Rattle.std.proofs.Common.{◌≡◌, ℕ, suc, ◌<◌, List, [], ◌∷◌, ◌++◌, refl, sym, subst, arith}
use Rattle.commons.specs.Bag.{bag}
use Rattle.step_core.specs.Links.{Path, Spells}
use Rattle.step_core.proofs.Bags.{times-cons, times-head}

-- the links that a path goes over are all that it reads
pub path_agrees : (f g : ℕ → ℕ) (v : ℕ) (xs : List ℕ) (u : ℕ) →
    ((i : ℕ) → 0 < bag xs i → f i ≡ g i) → Path f v xs u → Path g v xs u
path_agrees f g v [] u same p = p
path_agrees f g v (x ∷ xs) u same p = (
  p.0,
  subst (λ (a : ℕ). Path g a xs u) (same x (omega (arith, times-head x xs)))
      (path_agrees f g (f x) xs u (λ i h. same i (omega (arith, times-cons i x xs))) p.1),
)

pub path_from : (f : ℕ → ℕ) (v w : ℕ) (xs : List ℕ) (u : ℕ) → v ≡ w → Path f v xs u → Path f w xs u
path_from f v w xs u e p = subst (λ (a : ℕ). Path f a xs u) e p

pub path_to : (f : ℕ → ℕ) (v : ℕ) (xs : List ℕ) (u w : ℕ) → u ≡ w → Path f v xs u → Path f v xs w
path_to f v xs u w e p = subst (λ (a : ℕ). Path f v xs a) e p

-- a path and the whole list from the same value: the path is a front of it
pub path_front : (f : ℕ → ℕ) (v : ℕ) (xs ys : List ℕ) (u : ℕ) → Path f v xs u → Spells f v ys →
    (zs : List ℕ) × (ys ≡ xs ++ zs) × Spells f u zs
path_front f v [] ys u p s = (ys, refl, subst (λ (a : ℕ). Spells f a ys) p s)
path_front f v (x ∷ xs) [] u p s = absurd (cc (p.0, s))
path_front f v (x ∷ xs) (y ∷ ys) u p s =
    let same : x ≡ y = cc (p.0, s.0) in
    let more = path_front f (f x) xs ys u p.1 (subst (λ (a : ℕ). Spells f (f a) ys) (sym same) s.1) in
    (more.0, (let e = more.1 in cc), more.2)

pub path_append : (f : ℕ → ℕ) (v : ℕ) (xs ys : List ℕ) (u w : ℕ) → Path f v xs u → Path f u ys w → Path f v (xs ++ ys) w
path_append f v [] ys u w p q = path_from f u v ys w (sym p) q
path_append f v (x ∷ xs) ys u w p q = (p.0, path_append f (f x) xs ys u w p.1 q)

-- one more element at the end
pub path_push : (f : ℕ → ℕ) (v : ℕ) (xs : List ℕ) (i : ℕ) → Path f v xs (suc i) → Path f v (xs ++ i ∷ []) (f i)
path_push f v xs i p = path_append f v xs (i ∷ []) (suc i) (f i) p (refl, refl)
