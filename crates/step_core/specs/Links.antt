-- Lists that links spell. A link value is 0 for the end, else an element + 1.
use Rattle.std.specs.Prelude.{◌≡◌, ℕ, suc, List, [], ◌∷◌, Option, Some, None}

-- the link value of an element, or of none
abbrev pub link_value : Option ℕ → ℕ
link_value None = 0
link_value (Some i) = suc i

-- from the value v the links lead through these elements to the value u
abbrev pub Path : (ℕ → ℕ) → ℕ → List ℕ → ℕ → Type 0
Path link v [] u = v ≡ u
Path link v (i ∷ is) u = (v ≡ suc i) × Path link (link i) is u

-- the list spelled from a value, which ends
abbrev pub Spells : (ℕ → ℕ) → ℕ → List ℕ → Type 0
Spells link v xs = Path link v xs 0

-- the first element of a list as a link value, and the last
abbrev pub first_value : List ℕ → ℕ
first_value [] = 0
first_value (i ∷ is) = suc i

abbrev pub last_value : List ℕ → ℕ
last_value [] = 0
last_value (x ∷ []) = suc x
last_value (x ∷ y ∷ ys) = last_value (y ∷ ys)
