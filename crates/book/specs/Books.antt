-- Which shares a book has, and which it lacks.
use Rattle.std.specs.Prelude.{ℕ, ◌≡◌, ◌<◌, ◌≤◌, ◌+◌, ◌-◌, List, [], ◌∷◌, length, replicate, slice_index_or, slice_set, Option, Some, None}
use Rattle.commons.specs.declared.limits.Limits.{Limits}
use Rattle.mbuf.specs.Members.{Member, slots}
use Rattle.book.specs.Places.{Places}

-- a share that may stand in the place at n: it is of the worker of that place, and its table has
-- all its slots
pub record IsShare (n : ℕ) (m : Member) : Type 0 where
  pub number : m.number ≡ n + 1
  pub slots : length m.table ≡ slots

-- each share stands in the place of its worker
abbrev pub AreShares : List (Option Member) → Type 0
AreShares places = (n : ℕ) (m : Member) → slice_index_or places n None ≡ Some m → IsShare n m

-- a book without shares
abbrev pub new_book : Limits → Places
new_book l = record { limits = l; places = replicate l.workers None }

-- the book with one share more
abbrev pub with_share : Places → Member → Places
with_share b m = record b { places = slice_set b.places (m.number - 1) (Some m) }

-- the pool has such a worker, and its share isn't in the book
pub record IsMissing (b : Places) (w : ℕ) : Type 0 where
  pub first : 1 ≤ w
  pub last : w ≤ b.limits.workers
  pub empty : slice_index_or b.places (w - 1) None ≡ None

-- it is the least of them
pub record IsLeastMissing (b : Places) (w : ℕ) : Type 0 where
  pub missing : IsMissing b w
  pub least : (v : ℕ) → v < w → ¬ (IsMissing b v)

-- the book has the share of each worker
abbrev pub IsFull : Places → Type 0
IsFull b = (w : ℕ) → ¬ (IsMissing b w)

-- the shares of these places, by worker
abbrev pub shares_in : List (Option Member) → List Member
shares_in [] = []
shares_in (None ∷ places) = shares_in places
shares_in (Some m ∷ places) = m ∷ shares_in places
