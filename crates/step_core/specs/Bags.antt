-- What is done to lists of elements of which the order doesn't matter.
use Rattle.std.specs.Prelude.{◌≡◌, ℕ, ◌≤◌, Bool, true, cond, List, [], ◌∷◌, ◌++◌, filter, nat_lt, ◌==◌, ◌&&◌, if◌then◌else◌}
use Rattle.commons.specs.Bag.{bag}

-- 1 for a test that holds, and 0 for one that fails
abbrev pub one_if : Bool → ℕ
one_if test = cond test 1 0

-- 1 for the numbers below n, and 0 for the others
unfoldable pub below : ℕ → ℕ → ℕ
below n i = one_if (nat_lt i n)

-- whether the element stands in the list
abbrev pub has : List ℕ → ℕ → Bool
has xs i = nat_lt 0 (bag xs i)

-- whether all of the list are below n
abbrev pub all_below : ℕ → List ℕ → Bool
all_below n [] = true
all_below n (x ∷ xs) = nat_lt x n && all_below n xs

-- the list without the first x
unfoldable pub without : ℕ → List ℕ → List ℕ
without x [] = []
without x (y ∷ ys) = if y == x then ys else y ∷ without x ys

-- the first list without each of the second in turn
unfoldable pub minus : List ℕ → List ℕ → List ℕ
minus xs [] = xs
minus xs (y ∷ ys) = minus (without y xs) ys

-- those headers that are still among the holds
abbrev pub still_held : List ℕ → List ℕ → List ℕ
still_held headers holds = filter (has holds) headers

-- the second is a part of the first
abbrev pub Includes : List ℕ → List ℕ → Type 0
Includes xs ys = (i : ℕ) → bag ys i ≤ bag xs i

-- whether the second is a part of the first: each that stands in it, so often stands in the first
abbrev pub includes_from : List ℕ → List ℕ → List ℕ → Bool
includes_from xs ys [] = true
includes_from xs ys (z ∷ zs) =
    Rattle.std.specs.Prelude.nat_le (bag ys z) (bag xs z) && includes_from xs ys zs

abbrev pub includes : List ℕ → List ℕ → Bool
includes xs ys = includes_from xs ys ys

abbrev pub SameBag : List ℕ → List ℕ → Type 0
SameBag xs ys = (i : ℕ) → bag xs i ≡ bag ys i

abbrev pub IsDistinct : List ℕ → Type 0
IsDistinct xs = (i : ℕ) → bag xs i ≤ 1

-- the first list begins with the second
abbrev pub HasFront : List ℕ → List ℕ → Type 0
HasFront xs ys = (zs : List ℕ) × (xs ≡ ys ++ zs)
