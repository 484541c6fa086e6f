-- Where the words of a depot stand: on a cache line each a word that nobody writes and the three
-- heads, then a link for each magazine, and then a place for each element that has one.
use Rattle.std.specs.Prelude.{ℕ, ◌+◌, ◌-◌, ◌==◌, List, if◌then◌else◌, slice_index}
use Rattle.depot.specs.declared.view.Stack.{Stack}
use Rattle.depot.specs.declared.view.Stack.TheVariants.{Full, Partial, Empty}

abbrev pub head_at : Stack → ℕ
head_at Full = 8
head_at Partial = 16
head_at Empty = 24

-- the stack whose head stands there
abbrev pub stack_at : ℕ → Stack
stack_at word = if word == 8 then Full else if word == 16 then Partial else Empty

abbrev pub link_at : ℕ → ℕ
link_at m = 32 + m

-- the magazine whose link stands there
abbrev pub magazine_at : ℕ → ℕ
magazine_at word = word - 32

abbrev pub head_in : List ℕ → Stack → ℕ
head_in words k = slice_index words (head_at k)

abbrev pub link_in : List ℕ → ℕ → ℕ
link_in words m = slice_index words (link_at m)

-- the place of an element stands behind the links of so many magazines
abbrev pub place_at : ℕ → ℕ → ℕ
place_at slots i = link_at (slots + i)

-- the element whose place stands there
abbrev pub element_at : ℕ → ℕ → ℕ
element_at slots word = word - 32 - slots

abbrev pub place_in : List ℕ → ℕ → ℕ → ℕ
place_in words slots i = link_in words (slots + i)
