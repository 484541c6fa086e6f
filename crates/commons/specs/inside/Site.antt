-- How a `PlainSite` keeps its lists. No public clause cites this module.
use Rattle.std.specs.Prelude.{ℕ, ◌≡◌, ◌+◌, ◌≤◌, List, Option, None, nat_lt, if◌then◌else◌, length, reverse, slice_index, slice_index_or, vec_capacity}
use Rattle.commons.specs.Bag.{bag}
use Rattle.commons.specs.Lists.{Lists, IsTable, owner_left}
use Rattle.commons.specs.declared.site.PlainSite.TheInside.{Inside}

-- the common list is kept with its top at the end
abbrev pub lists_of : Inside → Lists
lists_of s = record {
  limits = s.limits;
  common = reverse s.common.items;
  places = s.places.items;
  holds = s.holds.items;
  headers = s.headers.items;
  desks = s.desks.items;
  changes = s.changes;
}

-- the lists show a table, and the common list has room for the population
pub record IsKept (s : Inside) : Type 0 where
  pub table : IsTable (lists_of s)
  pub room : s.limits.population ≤ vec_capacity s.common

-- Worker w had holds of these elements that ended: the worker's row of holds, and the headers,
-- before and afterwards.
pub record HasEnded (w : ℕ) (es row : List ℕ) (headers : List (Option ℕ)) (left : List ℕ)
    (headers_after : List (Option ℕ)) : Type 0 where
  pub holds : (i : ℕ) → slice_index row i ≡ slice_index left i + bag es i
  pub owned : (i : ℕ) → slice_index_or headers_after i None
      ≡ (if nat_lt 0 (bag es i)
      then owner_left w (slice_index left i) (slice_index_or headers i None)
      else slice_index_or headers i None)
  pub len : length left ≡ length row
  pub headers_len : length headers_after ≡ length headers
