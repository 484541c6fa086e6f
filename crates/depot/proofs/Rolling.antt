-- What is lent of a new depot.
use Rattle.std.proofs.Common.{◌≡◌, ℕ, ◌≤◌, List, ap, ◌∙◌}
use Rattle.std.specs.List.{range_with_len}
use Rattle.commons.specs.Bag.{bag}
use Rattle.depot.proofs.Bags.{below-past}
use Rattle.depot.proofs.Opens.{bag-range}

-- an element that the depot hasn't is in no hand
pub last-lent : (p : ℕ) (xs : List ℕ) → xs ≡ range_with_len 0 p → (i : ℕ) → p ≤ i → bag xs i ≡ 0
last-lent p xs is i h = ap (λ (ys : List ℕ). bag ys i) is ∙ bag-range p i ∙ below-past p i h
