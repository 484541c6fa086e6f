-- What a pool's shared part leaves as plain data, once the pool is closed.
use Rattle.std.specs.Prelude.{ℕ, ◌+◌, ◌==◌, if◌then◌else◌, List, [], ◌∷◌, length, map, max}
use Rattle.std.specs.List.{range_with_len}
use Rattle.commons.specs.declared.closed.Closed.{Closed}
use Rattle.commons.specs.Lists.{Lists, held_count, place_of}

-- the word of the first of these elements: one more than it, and 0 where there is none
abbrev pub top_word : List ℕ → ℕ
top_word [] = 0
top_word (x ∷ xs) = x + 1

-- the word of what follows an element in a common list: 0 for the last, and for one that isn't
-- there
abbrev pub link_in : List ℕ → ℕ → ℕ
link_in [] e = 0
link_in (x ∷ xs) e = if x == e then top_word xs else link_in xs e

-- the top and the length of the common list; for each element its link and its count, 1 where
-- nobody holds it; and what is on the desks
abbrev pub closed_of : Lists → Closed
closed_of s = record {
  top = top_word s.common;
  length = length s.common;
  links = map (link_in s.common) (range_with_len 0 s.limits.population);
  counts = map (λ i. max 1 (held_count (place_of s i))) (range_with_len 0 s.limits.population);
  desks = s.desks;
}
