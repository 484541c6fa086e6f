-- What a depot is at the start.
use Rattle.std.specs.Prelude.{ℕ, ◌+◌, ◌*◌, ◌/◌, List, [], ◌∷◌, ◌++◌, min, max, replicate}
use Rattle.std.specs.List.{range_with_len}

-- a cache line that nobody writes, and the three heads on one each, of which that of the empty
-- magazines names the last magazine + 1
abbrev pub header : ℕ → List ℕ
header magazines =
    0 ∷ 0 ∷ 0 ∷ 0 ∷ 0 ∷ 0 ∷ 0 ∷ 0 ∷ 0 ∷ 0 ∷ 0 ∷ 0 ∷ 0 ∷ 0 ∷ 0 ∷ 0 ∷ 0 ∷ 0 ∷ 0 ∷ 0 ∷ 0
    ∷ 0 ∷ 0 ∷ 0 ∷ magazines ∷ 0 ∷ 0 ∷ 0 ∷ 0 ∷ 0 ∷ 0 ∷ 0 ∷ []

-- behind it for each magazine the one before it + 1
abbrev pub linked_words : ℕ → List ℕ
linked_words magazines = header magazines ++ range_with_len 0 magazines

abbrev pub zeros : ℕ → List ℕ
zeros n = replicate n 0

-- and then the places, at which nothing rests
abbrev pub opening_words : ℕ → ℕ → List ℕ
opening_words magazines places = linked_words magazines ++ zeros places

-- how many elements a magazine may have, so that two for each worker keep at most half of them
abbrev pub fair : ℕ → ℕ → ℕ
fair values workers = values / (4 * workers)

-- how many a magazine has: that, but 8 at least and 128 at most
abbrev pub rounds_for : ℕ → ℕ → ℕ
rounds_for values workers = max (min (fair values workers) 128) 8

-- how many magazines there are: as many as the elements fill, two for the rest, and three a worker
abbrev pub magazines_for : ℕ → ℕ → ℕ
magazines_for values workers = values / rounds_for values workers + 2 + 3 * workers
