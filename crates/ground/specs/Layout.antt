-- Where each word of a pool stands. Every get and put of every worker exchanges the head and the
-- length. So each of the two has a cache line for itself, and the links and counts begin after
-- both: an exchange of the one takes away neither the other nor an element's words from a worker
-- that reads them. Before both stands a cache line that nobody ever writes: where a seat is cut in
-- two or two are made one, the first word of the table is loaded, which no exchange takes away.
use Rattle.std.specs.Prelude.{ℕ, ◌+◌, ◌-◌, ◌*◌, ◌<◌, List, ◌∷◌, ◌++◌, map, replicate}
use Rattle.commons.specs.Bag.{bag}
use Rattle.head_word.specs.Heads.{low_in, count_in, word_with}
use Rattle.step_core.specs.declared.view.Head.{Head}
use Rattle.step_core.specs.declared.view.Desk.{Desk}
use Rattle.step_core.specs.World.{World}

-- the head's word: its count above the low bits, which are its top
abbrev pub pack : Head → ℕ
pack h = word_with h.top h.count

abbrev pub unpack : ℕ → Head
unpack n = record { top = low_in n; count = count_in n }

-- how many words a cache line has
abbrev pub line_words : ℕ
line_words = 8

-- where the word stands that nobody writes, and is always 0; where the head and the length stand;
-- and where the links begin
abbrev pub quiet_word : ℕ
quiet_word = 0

abbrev pub head_word : ℕ
head_word = line_words

abbrev pub length_word : ℕ
length_word = 2 * line_words

abbrev pub links_at : ℕ
links_at = 3 * line_words

-- a word with a cache line for itself
abbrev pub line_of : ℕ → List ℕ
line_of word = word ∷ replicate (line_words - 1) 0

-- the words before the links: the cache line that nobody writes, that of the head and that of the
-- length
abbrev pub lines : ℕ → ℕ → List ℕ
lines head length = line_of 0 ++ (line_of head ++ line_of length)

-- the words of a table: these cache lines, then a link for each element, a count for each, and a
-- word for each desk
abbrev pub words_with : ℕ → ℕ → List ℕ → List ℕ → List ℕ → List ℕ
words_with head length links counts desks = lines head length ++ (links ++ (counts ++ desks))

abbrev pub word_on : Desk → ℕ
word_on x = x.word

-- the words after these cache lines
abbrev pub rows_of : World → List ℕ
rows_of w = w.links ++ (w.counts ++ map word_on w.desks)

abbrev pub words_of : World → List ℕ
words_of w = words_with (pack w.head) w.length w.links w.counts (map word_on w.desks)

-- the index of an element's link, of its count, and of a desk's word
abbrev pub link_word : ℕ → ℕ
link_word i = links_at + i

abbrev pub count_word : ℕ → ℕ → ℕ
count_word population i = links_at + population + i

abbrev pub desk_word : ℕ → ℕ → ℕ
desk_word population d = links_at + 2 * population + d

-- the links of these elements are among so many words
abbrev pub AreLinked : ℕ → List ℕ → Type 0
AreLinked words xs = (i : ℕ) → 0 < bag xs i → link_word i < words

-- the element whose link the word at this index is, the one whose count it is, and the desk whose
-- word it is
abbrev pub element_linked_at : ℕ → ℕ
element_linked_at word = word - links_at

abbrev pub element_counted_at : ℕ → ℕ → ℕ
element_counted_at population word = word - (links_at + population)

abbrev pub desk_standing_at : ℕ → ℕ → ℕ
desk_standing_at population word = word - (links_at + 2 * population)

-- how many words there are
abbrev pub word_count : ℕ → ℕ → ℕ
word_count population desks = links_at + 2 * population + desks
