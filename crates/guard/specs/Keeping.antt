-- What contracts see of the list of a worker's elements.
use Rattle.std.specs.Prelude.{◌≡◌, ℕ, ◌+◌, ◌<◌, List, length}
use Rattle.commons.specs.Bag.{bag, one}

-- its elements, how many there is room for, and how many more needn't wait
pub record Keep : Type 0 where
  pub items : List ℕ
  pub most : ℕ
  pub near : ℕ

-- this element was taken out of it, and its room is there again
pub record Takes (e : ℕ) (a b : Keep) : Type 0 where
  pub items : (i : ℕ) → bag a.items i ≡ one e i + bag b.items i
  pub less : length b.items + 1 ≡ length a.items
  pub room : length b.items < b.most
  pub most : b.most ≡ a.most
