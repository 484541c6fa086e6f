-- Lists of elements, and elements that stand twice in them. For private clauses.
use Rattle.std.specs.Prelude.{ℕ, suc, ◌≡◌, ◌<◌, ◌≤◌, List, Option, None, Some, nat_le, if◌then◌else◌, length, slice_index, take}
use Rattle.commons.specs.Bag.{bag}
use Rattle.snapshot_json.specs.Reading.{IsLeastDouble}
use Rattle.snapshot_json.specs.declared.text.Double.{Double}

-- of the first elements of a list, the least one that stands twice, if one does
abbrev pub IsLeastOf : List ℕ → ℕ → Option Double → Type 0
IsLeastOf common k None = (e : ℕ) → bag (take k common) e ≤ 1
IsLeastOf common k (Some d) = IsLeastDouble (take k common) d.elem d.first d.second

-- the one of the lesser element, or the former of two of one element
abbrev pub lesser_of : Option Double → Double → Option Double
lesser_of None other = Some other
lesser_of (Some d) other = if nat_le d.elem other.elem then Some d else Some other

-- For each element of the population, where it stands first among the first elements of a list, as
-- the place + 1; 0 where it isn't among them.
pub record AreFirst (common : List ℕ) (k population : ℕ) (places : List ℕ) : Type 0 where
  pub len : length places ≡ population
  pub none : (e : ℕ) → e < population → slice_index places e ≡ 0 → bag (take k common) e ≡ 0
  pub low : (e : ℕ) → e < population → slice_index places e ≤ k
  pub first : (e p : ℕ) → e < population → slice_index places e ≡ suc p → slice_index common p ≡ e
