-- The last of a list, which is lent first.
use Rattle.std.proofs.Common.{◌≡◌, ◌≢◌, ℕ, ◌<◌, ◌≤◌, ◌==◌, List, [], ◌∷◌, ◌++◌, length, refl, ap, ◌∙◌, subst, arith, ⊎_elim}
use Rattle.std.proofs.lemmas.Bool.{cases_eq, cond-true, cond-false, eq-eqb, ne_eqb}
use Rattle.commons.specs.Bag.{bag}
use Rattle.step_core.specs.Bags.{without}
use Rattle.step_core.proofs.Bags.{times-cons, times-head, times-last, times-one, times-other}
use Rattle.ground.specs.Parting.{last_element}

-- it stands in the list
pub last_there : (xs : List ℕ) → 0 < length xs → 0 < bag xs (last_element xs)
last_there [] h = absurd (omega arith)
last_there (x ∷ []) h = let one = times-one x in omega arith
last_there (x ∷ y ∷ ys) h =
    let there = last_there (y ∷ ys) (omega arith) in
    let more = times-cons (last_element (y ∷ ys)) x (y ∷ ys) in
    omega arith

-- it is what was put behind the list
pub last_behind : (xs : List ℕ) (x : ℕ) → last_element (xs ++ x ∷ []) ≡ x
last_behind [] x = refl
last_behind (y ∷ []) x = refl
last_behind (y ∷ z ∷ zs) x = last_behind (z ∷ zs) x

-- without it there is what stood before, where it stands nowhere else
pub without_last : (xs : List ℕ) (x : ℕ) → bag xs x ≡ 0 → without x (xs ++ x ∷ []) ≡ xs
unfolding without
without_last [] x none = cond-true (x == x) [] (x ∷ without x []) (eq-eqb x x refl)
without_last (y ∷ ys) x none =
    ⊎_elim
    (λ (e : y ≡ x).
    absurd (let P : ℕ → Type 0 = λ z. bag (z ∷ ys) x ≡ 0 in let h = subst P e none in let one = times-head x ys in omega arith))
    (λ (n : y ≢ x).
    let same = times-other x y ys n in
    cond-false (y == x) (ys ++ x ∷ []) (y ∷ without x (ys ++ x ∷ [])) (ne_eqb y x n)
    ∙ ap (λ (zs : List ℕ). y ∷ zs) (without_last ys x (omega arith)))
    (cases_eq y x)

-- so a list that ends with it is then what stands before
pub cut_last : (xs ys : List ℕ) (x : ℕ) → xs ≡ ys ++ x ∷ [] → bag xs x ≤ 1 → without (last_element xs) xs ≡ ys
cut_last xs ys x is once =
    let at_end = ap (λ (zs : List ℕ). bag zs x) is in
    let one = times-last x ys in
    let none : bag ys x ≡ 0 = omega arith in
    ap (λ (zs : List ℕ). without (last_element zs) zs) is
    ∙ (ap (λ (z : ℕ). without z (ys ++ x ∷ [])) (last_behind ys x) ∙ without_last ys x none)
