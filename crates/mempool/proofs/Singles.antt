-- Lists of one element.
use Rattle.std.proofs.Common.{◌≡◌, ℕ, List, [], ◌∷◌, length, get_or, arith, refl}

-- a list of one element is that one alone
pub one_alone : (xs : List ℕ) → length xs ≡ 1 → xs ≡ get_or xs 0 0 ∷ []
one_alone [] h = absurd (omega arith)
one_alone (x ∷ []) h = refl
one_alone (x ∷ (y ∷ ys)) h = absurd (omega arith)
