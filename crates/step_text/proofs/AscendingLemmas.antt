-- A list that was sorted is the ascending list of its numbers.
use Rattle.std.proofs.Common.{ℕ, zero, suc, ◌≡◌, ◌+◌, ◌<◌, ◌≤◌, ◌==◌, cond, List, [], ◌∷◌, ◌++◌, length, replicate, refl, sym, ap, ◌∙◌, arith}
use Rattle.std.proofs.lemmas.List.Elements.{All-cons, All-head, All-tail}
use Rattle.std.proofs.lemmas.List.Sorted.{All-permutation, IsNonDecreasingBy-from_sort, sum_by-IsPermutation}
use Rattle.std.specs.List.{All}
use Rattle.std.specs.List.Sorted.{IsNonDecreasing, IsPermutation, IsSorted}
use Rattle.std.specs.Ordering.{nat_cmp}
use Rattle.commons.specs.Bag.{bag, one}
use Rattle.commons.proofs.Bags.{bag-nil, bag-cons, one-same}
use Rattle.commons.proofs.Places.{one-apart}
use Rattle.step_text.specs.Ascending.{so_often, above, ascending}

-- what is asked for alike from k up is the same
so_often-same : (f g : ℕ → ℕ) (k n : ℕ) → ((i : ℕ) → k ≤ i → f i ≡ g i) → so_often f k n ≡ so_often g k n
so_often-same f g k zero same = refl
so_often-same f g k (suc n) same =
    ap (λ m. replicate m k ++ so_often f (suc k) n) (same k (omega arith))
    ∙ ap (λ xs. replicate (g k) k ++ xs) (so_often-same f g (suc k) n (λ i l. same i (omega arith)))

-- nothing is asked for
so_often-none : (f : ℕ → ℕ) (k n : ℕ) → ((i : ℕ) → f i ≡ 0) → so_often f k n ≡ []
so_often-none f k zero none = refl
so_often-none f k (suc n) none =
    ap (λ m. replicate m k ++ so_often f (suc k) n) (none k) ∙ so_often-none f (suc k) n none

-- one more of the least number that is asked for stands before all others
so_often-first : (f : ℕ → ℕ) (y x d n : ℕ) → y ≡ x + d → d < n → ((i : ℕ) → i < y → f i ≡ 0) →
    so_often (λ i. one y i + f i) x n ≡ y ∷ so_often f x n
so_often-first f y x d zero e l none = absurd (omega arith)
so_often-first f y x zero (suc n) e l none =
    let same : x ≡ y = omega (arith, e) in
    let here : one y x + f x ≡ suc (f x) = omega (arith, ap (one y) same, one-same y) in
    let further : so_often (λ i. one y i + f i) (suc x) n ≡ so_often f (suc x) n =
    so_often-same (λ i. one y i + f i) f (suc x) n
    (λ i m. omega (arith, one-apart y i (omega (arith, e)))) in
    ap (λ m. replicate m x ++ so_often (λ i. one y i + f i) (suc x) n) here
    ∙ ap (λ xs. x ∷ (replicate (f x) x ++ xs)) further
    ∙ ap (λ z. z ∷ (replicate (f x) x ++ so_often f (suc x) n)) same
so_often-first f y x (suc d) (suc n) e l none =
    let apart : f x ≡ 0 = none x (omega (arith, e)) in
    let here : one y x + f x ≡ 0 = omega (arith, one-apart y x (omega (arith, e)), apart) in
    ap (λ m. replicate m x ++ so_often (λ i. one y i + f i) (suc x) n) here
    ∙ so_often-first f y (suc x) d n (omega (arith, e)) (omega arith) none
    ∙ ap (λ m. y ∷ (replicate m x ++ so_often f (suc x) n)) (sym apart)

-- a number below all of a list doesn't stand in it
bag-below : (y : ℕ) (ys : List ℕ) → All (λ z. y ≤ z) ys → (i : ℕ) → i < y → bag ys i ≡ 0
bag-below y [] all i l = bag-nil i
bag-below y (z ∷ zs) all i l =
    let low : y ≤ z = All-head (λ x. y ≤ x) z zs all in
    omega (arith, bag-cons z zs i, one-apart z i (omega arith), bag-below y zs (All-tail (λ x. y ≤ x) z zs all) i l)

-- the first of a list that doesn't fall is at most each other
first-least : (y : ℕ) (ys : List ℕ) → IsNonDecreasing (y ∷ ys) → All (λ z. y ≤ z) ys
first-least y ys up k d l = up 0 (suc k) d (omega arith) (omega arith)

rest-rises : (y : ℕ) (ys : List ℕ) → IsNonDecreasing (y ∷ ys) → IsNonDecreasing ys
rest-rises y ys up i j d m l = up (suc i) (suc j) d (omega arith) (omega arith)

-- a list that doesn't fall, of numbers below n
rising-is : (ys : List ℕ) (n : ℕ) → IsNonDecreasing ys → All (λ y. y < n) ys → so_often (bag ys) 0 n ≡ ys
rising-is [] n up all = so_often-none (bag []) 0 n bag-nil
rising-is (y ∷ ys) n up all =
    so_often-same (bag (y ∷ ys)) (λ i. one y i + bag ys i) 0 n (λ i l. bag-cons y ys i)
    ∙ so_often-first (bag ys) y 0 y n (omega arith) (All-head (λ x. x < n) y ys all)
    (bag-below y ys (first-least y ys up))
    ∙ ap (λ zs. y ∷ zs) (rising-is ys n (rest-rises y ys up) (All-tail (λ x. x < n) y ys all))

-- each of a list is below the number above all
all-below : (xs : List ℕ) (n : ℕ) → above xs ≤ n → All (λ x. x < n) xs
all-below [] n l = λ k d m. absurd (omega arith)
all-below (x ∷ xs) n l =
    All-cons (λ y. y < n) x xs (omega arith) (all-below xs n (omega arith))

-- in another order a list has each number as often
bag-permutation : (xs ys : List ℕ) → IsPermutation xs ys → (i : ℕ) → bag xs i ≡ bag ys i
unfolding bag
bag-permutation xs ys p i = sym (sum_by-IsPermutation (λ x. cond (x == i) 1 0) xs ys p)

-- what a sort makes of a list
pub sorted-is : (xs ys : List ℕ) → IsPermutation xs ys → IsSorted nat_cmp ys → ys ≡ ascending xs
sorted-is xs ys p up =
    sym (so_often-same (bag xs) (bag ys) 0 (above xs) (λ i l. bag-permutation xs ys p i)
    ∙ rising-is ys (above xs) (IsNonDecreasingBy-from_sort (λ x. x) ys up)
    (All-permutation (λ x. x < above xs) xs ys p (all-below xs (above xs) (omega arith))))
