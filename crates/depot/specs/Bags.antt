-- Lists as bags: what is left of one without another, and how often something stands in many.
use Rattle.std.specs.Prelude.{ℕ, ◌≤◌, ◌==◌, List, [], ◌∷◌, if◌then◌else◌, nat_lt, sum_by}
use Rattle.commons.specs.Bag.{bag}

-- the list without the first x
unfoldable pub without : ℕ → List ℕ → List ℕ
without x [] = []
without x (y ∷ ys) = if y == x then ys else y ∷ without x ys

-- the list without each of these
unfoldable pub minus : List ℕ → List ℕ → List ℕ
minus xs [] = xs
minus xs (y ∷ ys) = minus (without y xs) ys

-- once below n, and never from there on
unfoldable pub below : ℕ → ℕ → ℕ
below n i = if nat_lt i n then 1 else 0

-- how often i stands in the lists of all of these
abbrev pub total : {X : Type 0} → (X → List ℕ) → List X → ℕ → ℕ
total f xs i = sum_by (λ x. bag (f x) i) xs

-- each of these stands in that list as often at least
abbrev pub Includes : List ℕ → List ℕ → Type 0
Includes xs ys = (i : ℕ) → bag ys i ≤ bag xs i
