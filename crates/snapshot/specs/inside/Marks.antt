-- Marks of the elements that were met. No public clause cites this module.
use Rattle.std.specs.Prelude.{ℕ, zero, suc, ◌≡◌, ◌↔◌, ◌<◌, ◌+◌, min, Bool, false, if◌then◌else◌, List, [], Contains, length, slice_index_or}
use Rattle.snapshot.specs.Lost.{IsAscending}
use Rattle.snapshot.specs.Snapshots.{elements_of, words_from}

-- 1 for an element that is marked, else 0
abbrev pub mark_of : Bool → ℕ
mark_of marked = if marked then 1 else 0

abbrev pub mark_at : List Bool → ℕ → ℕ
mark_at marks e = mark_of (slice_index_or marks e false)

-- each element that was met, this often, is marked now, and so is each that was before
pub record HasMarked (times : ℕ → ℕ) (old new : List Bool) : Type 0 where
  pub len : length new ≡ length old
  pub marks : (e : ℕ) → e < length old → mark_at new e ≡ min 1 (mark_at old e + times e)

-- the elements that a walk meets from a word on, this many at most
abbrev pub walked_from : ℕ → ℕ → List ℕ → ℕ → List ℕ
walked_from zero population links word = []
walked_from (suc most) population links word = elements_of population (words_from most population links word)

-- of the first n elements they are those without a mark, ascending
pub record AreUnmarked (marks : List Bool) (n : ℕ) (elems : List ℕ) : Type 0 where
  pub ascending : IsAscending elems
  pub exactly : (e : ℕ) → Contains elems e ↔ ((e < n) × (mark_at marks e ≡ 0))
