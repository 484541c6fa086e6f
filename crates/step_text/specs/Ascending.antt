-- The numbers of a list in ascending order.
use Rattle.std.specs.Prelude.{ℕ, zero, suc, List, [], ◌∷◌, ◌++◌, max, replicate}
use Rattle.commons.specs.Bag.{bag}

-- n numbers from k up, each as often as is asked for
abbrev pub so_often : (ℕ → ℕ) → ℕ → ℕ → List ℕ
so_often times k zero = []
so_often times k (suc n) = replicate (times k) k ++ so_often times (suc k) n

-- the least number above all of the list
abbrev pub above : List ℕ → ℕ
above [] = 0
above (x ∷ xs) = max (suc x) (above xs)

-- the numbers of the list in ascending order, each as often as it stands there
abbrev pub ascending : List ℕ → List ℕ
ascending xs = so_often (bag xs) 0 (above xs)
