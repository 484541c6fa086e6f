-- The shared pool as lists: what a contract sees of a `PlainSite`, and what each call does to it.
use Rattle.std.specs.Prelude.{ℕ, zero, suc, ◌≡◌, ◌≢◌, ◌+◌, ◌-◌, ◌<◌, ◌≤◌, ◌==◌, cond, if◌then◌else◌, List, [], ◌∷◌, ◌++◌, length, take, drop, reverse, replicate, slice_index, slice_index_or, slice_set, Result, Ok, Err, Option, Some, None, sum_by}
use Rattle.std.specs.List.{range_with_len}
use Rattle.commons.specs.declared.limits.Limits.{Limits}
use Rattle.commons.specs.declared.packet.Seg.{Seg}
use Rattle.commons.specs.declared.place.Place.{Place}
use Rattle.commons.specs.declared.place.Place.TheVariants.{Common, Hand, Held}
use Rattle.commons.specs.declared.refusal.Refusal.{Refusal}
use Rattle.commons.specs.declared.refusal.Refusal.TheVariants.{BadPool, OutOfMemory, NoEntries, HeadSpent, RefSpent, DeskTaken, DeskEmpty, NoSuchDesk}
use Rattle.commons.specs.declared.refusal.Lowered.{Lowered}
use Rattle.commons.specs.declared.refusal.Lowered.TheVariants.{Last, Still}
use Rattle.commons.specs.Bag.{bag}
use Rattle.commons.specs.Bounds.{IsPool}
use Rattle.commons.specs.Calls.{Reading, Length, Head, Count, Desk, Call, GetList, PutList, CommonCount, Claim, CountOf, Raise, Lower, Offer, Take, Side, spent, desk_empty, desk_full}
use Rattle.commons.specs.Packets.{held_in, own_in, holds_of_packet, own_of_packet}

-- the common list from the top; the place of each element; for each worker how often it holds each
-- element; for each element the worker whose header it is; what is on each desk; the number of
-- changes of the stack
pub record Lists : Type 0 where
  pub limits : Limits
  pub common : List ℕ
  pub places : List Place
  pub holds : List (List ℕ)
  pub headers : List (Option ℕ)
  pub desks : List (Option (List Seg))
  pub changes : ℕ

-- the place that no element of the pool has
abbrev pub nowhere : Place
nowhere = Held 0

abbrev pub place_of : Lists → ℕ → Place
place_of s i = slice_index_or s.places i nowhere

-- how often an element with this place is in the common list, how often in a worker's hand, and
-- its count
abbrev pub in_common : Place → ℕ
in_common Common = 1
in_common (Hand v) = 0
in_common (Held n) = 0

abbrev pub in_hand : ℕ → Place → ℕ
in_hand w Common = 0
in_hand w (Hand v) = cond (v == w) 1 0
in_hand w (Held n) = 0

abbrev pub held_count : Place → ℕ
held_count Common = 0
held_count (Hand v) = 0
held_count (Held n) = n

-- 0 only for a place that an element of a pool of this many workers can't have
abbrev pub weight : ℕ → Place → ℕ
weight workers Common = 1
weight workers (Hand zero) = 0
weight workers (Hand (suc v)) = workers - v
weight workers (Held n) = n

-- how often an element is in a worker's hand; workers are numbered from 1
abbrev pub hand_of : Lists → ℕ → ℕ → ℕ
hand_of s w i = in_hand w (place_of s i)

-- how often a worker holds an element
abbrev pub holds_of : Lists → ℕ → ℕ → ℕ
holds_of s w i = slice_index (slice_index_or s.holds (w - 1) []) i

-- how often all workers hold it
abbrev pub holds_of_all : Lists → ℕ → ℕ
holds_of_all s i = sum_by (λ row. slice_index row i) s.holds

-- 1 for the worker whose header it is
abbrev pub is_owner : ℕ → Option ℕ → ℕ
is_owner w None = 0
is_owner w (Some v) = cond (v == w) 1 0

abbrev pub header_of : Lists → ℕ → ℕ → ℕ
header_of s w i = is_owner w (slice_index_or s.headers i None)

-- what a worker has of the pool
abbrev pub side_of : Lists → ℕ → Side
side_of s w = record {
  limits = s.limits;
  hand = λ i. hand_of s w i;
  holds = λ i. holds_of s w i;
  headers = λ i. header_of s w i;
}

-- how many workers' header it is
abbrev pub owners : Option ℕ → ℕ
owners None = 0
owners (Some v) = 1

-- what is on a desk
abbrev pub desk_of : Lists → ℕ → Option (List Seg)
desk_of s d = slice_index_or s.desks d None

-- Each element has one place, and the lists show it: it stands in the common list once where that
-- is its place and else not at all, it is in the hand that its place names, and its count is the
-- number of its holds, by the workers and by the packets on desks, at most the reference limit.
-- What is a header is a worker's of the pool who holds it, nobody else's header, and no own
-- element of a packet on a desk; those are distinct.
pub record IsTable (s : Lists) : Type 0 where
  pub pool : IsPool s.limits
  pub elements : length s.places ≡ s.limits.population
  pub shown : (i : ℕ) → bag s.common i ≡ in_common (place_of s i)
  pub somewhere : (i : ℕ) → i < s.limits.population → 0 < weight s.limits.workers (place_of s i)
  pub workers : length s.holds ≡ s.limits.workers
  pub rows : (v : ℕ) → v < s.limits.workers → length (slice_index_or s.holds v []) ≡ s.limits.population
  pub counted : (i : ℕ) → held_count (place_of s i) ≡ holds_of_all s i + held_in s.desks i
  pub limited : (i : ℕ) → held_count (place_of s i) ≤ s.limits.ref_limit
  pub header_places : length s.headers ≡ s.limits.population
  pub owned : (w i : ℕ) → slice_index_or s.headers i None ≡ Some w → (1 ≤ w) × (w ≤ s.limits.workers)
  pub headers_held : (w i : ℕ) → 1 ≤ w → 0 < header_of s w i → 0 < holds_of s w i
  pub headers_apart : (i : ℕ) → owners (slice_index_or s.headers i None) + own_in s.desks i ≤ 1
  pub desks : length s.desks ≡ s.limits.desks
  pub changed : s.changes ≤ spent

-- the lists of a new pool: all elements in the common list, from 0 at the top
abbrev pub opening : Limits → Lists
opening l = record {
  limits = l;
  common = range_with_len 0 l.population;
  places = replicate l.population Common;
  holds = replicate l.workers (replicate l.population 0);
  headers = replicate l.population None;
  desks = replicate l.desks None;
  changes = l.start_count;
}

-- why a pool isn't made
abbrev pub IsMakeCause : Limits → Refusal → Type 0
IsMakeCause l BadPool = ¬ (IsPool l)
IsMakeCause l OutOfMemory = IsPool l
IsMakeCause l _ = ⊥

-- a list, one for each element, once this stands at each of these elements
abbrev pub placed : {A : Type 0} → List ℕ → A → List A → List A
placed [] p places = places
placed (x ∷ xs) p places = placed xs p (slice_set places x p)

-- the holds once a worker holds an element so often
abbrev pub with_hold : ℕ → ℕ → ℕ → List (List ℕ) → List (List ℕ)
with_hold w i n holds = slice_set holds (w - 1) (slice_set (slice_index_or holds (w - 1) []) i n)

-- the header's owner once the worker has no hold left
abbrev pub disowned : ℕ → Option ℕ → Option ℕ
disowned w None = None
disowned w (Some v) = if v == w then None else Some v

-- the header's owner once a worker has this many holds left
abbrev pub owner_left : ℕ → ℕ → Option ℕ → Option ℕ
owner_left w zero owner = disowned w owner
owner_left w (suc left) owner = owner

abbrev pub headers_left : ℕ → ℕ → ℕ → List (Option ℕ) → List (Option ℕ)
headers_left w i left headers = slice_set headers i (owner_left w left (slice_index_or headers i None))

-- what a get leaves
abbrev pub after_get : ℕ → ℕ → Lists → Lists
after_get w n s = record s {
  common = drop n s.common;
  places = placed (take n s.common) (Hand w) s.places;
  changes = s.changes + 1;
}

-- what a put leaves
abbrev pub after_put : List ℕ → Lists → Lists
after_put xs s = record s {
  common = reverse xs ++ s.common;
  places = placed xs Common s.places;
  changes = s.changes + 1;
}

-- what a claim leaves
abbrev pub after_claim : ℕ → ℕ → Lists → Lists
after_claim w i s = record s {
  places = slice_set s.places i (Held 1);
  holds = with_hold w i 1 s.holds;
  headers = slice_set s.headers i (Some w);
}

-- what one hold more leaves
abbrev pub after_raise : ℕ → ℕ → Lists → Lists
after_raise w i s = record s {
  places = slice_set s.places i (Held (held_count (place_of s i) + 1));
  holds = with_hold w i (holds_of s w i + 1) s.holds;
}

-- what the end of the last hold leaves, and that of another
abbrev pub after_lower : ℕ → ℕ → Place → Lists → Lists
after_lower w i place s =
    record s {
      places = slice_set s.places i place;
      holds = with_hold w i (holds_of s w i - 1) s.holds;
      headers = headers_left w i (holds_of s w i - 1) s.headers;
    }

-- where an element with this place is once a hold of it has ended, and what is answered
abbrev pub WasLowered : ℕ → Place → Place → Lowered → Type 0
WasLowered w p q Last = (p ≡ Held 1) × (q ≡ Hand w)
WasLowered w p q Still = (1 < held_count p) × (q ≡ Held (held_count p - 1))

abbrev pub DidLower : ℕ → Lists → ℕ → Lowered → Lists → Type 0
DidLower w s i answer t =
    (place : Place) × WasLowered w (place_of s i) place answer × (t ≡ after_lower w i place s)

-- a get of n on the lists, by its answer and what it leaves
abbrev pub DidGet : ℕ → Lists → ℕ → Result (List ℕ) Refusal → Lists → Type 0
DidGet w s n (Ok xs) t =
    (n ≤ length s.common) × (s.changes < spent) × (xs ≡ take n s.common) × (t ≡ after_get w n s)
DidGet w s n (Err NoEntries) t = (length s.common < n) × (t ≡ s)
DidGet w s n (Err HeadSpent) t = (n ≤ length s.common) × (s.changes ≡ spent) × (t ≡ s)
DidGet w s n (Err _) t = ⊥

abbrev pub DidPut : Lists → List ℕ → Result (Unit {0}) Refusal → Lists → Type 0
DidPut s xs (Ok _) t = (s.changes < spent) × (t ≡ after_put xs s)
DidPut s xs (Err HeadSpent) t = (s.changes ≡ spent) × (t ≡ s)
DidPut s xs (Err _) t = ⊥

-- one hold more of an element, where its count is below the limit
abbrev pub DidRaise : ℕ → Lists → ℕ → Result (Unit {0}) Refusal → Lists → Type 0
DidRaise w s i (Ok _) t = (held_count (place_of s i) < s.limits.ref_limit) × (t ≡ after_raise w i s)
DidRaise w s i (Err RefSpent) t = (held_count (place_of s i) ≡ s.limits.ref_limit) × (t ≡ s)
DidRaise w s i (Err _) t = ⊥

-- worker w has a packet more in the second lists: its holds, and its own elements as headers
pub record HasMore (w : ℕ) (packet : List Seg) (s t : Lists) : Type 0 where
  pub holds : (i : ℕ) → holds_of t w i ≡ holds_of s w i + bag (holds_of_packet packet) i
  pub headers : (i : ℕ) → header_of t w i ≡ header_of s w i + bag (own_of_packet packet) i

-- Worker w has a packet less in the second lists: its holds are gone, and its own elements, which
-- were headers, no longer are; nor is what the worker then doesn't hold.
pub record HasLess (w : ℕ) (packet : List Seg) (s t : Lists) : Type 0 where
  pub holds : (i : ℕ) → holds_of s w i ≡ holds_of t w i + bag (holds_of_packet packet) i
  pub own : (i : ℕ) → bag (own_of_packet packet) i ≤ header_of s w i
  pub left : (i : ℕ) → 0 < holds_of t w i → header_of s w i ≡ header_of t w i + bag (own_of_packet packet) i
  pub ended : (i : ℕ) → holds_of t w i ≡ 0 → header_of t w i ≡ 0

-- this is on the desk afterwards; holds and headers may differ, and nothing else does
abbrev pub IsPassed : ℕ → Option (List Seg) → Lists → Lists → Type 0
IsPassed d packet s t =
    t ≡ record s { holds = t.holds; headers = t.headers; desks = slice_set s.desks d packet }

abbrev pub DidOffer : ℕ → Lists → ℕ → List Seg → Result (Unit {0}) Refusal → Lists → Type 0
DidOffer w s d packet (Ok _) t =
    (d < s.limits.desks) × (desk_of s d ≡ None) × IsPassed d (Some packet) s t
    × HasLess w packet s t
DidOffer w s d packet (Err NoSuchDesk) t = (s.limits.desks ≤ d) × (t ≡ s)
DidOffer w s d packet (Err DeskTaken) t = (d < s.limits.desks) × (desk_of s d ≢ None) × (t ≡ s)
DidOffer w s d packet (Err _) t = ⊥

abbrev pub DidTake : ℕ → Lists → ℕ → Result (List Seg) Refusal → Lists → Type 0
DidTake w s d (Ok packet) t =
    (d < s.limits.desks) × (desk_of s d ≡ Some packet) × IsPassed d None s t × HasMore w packet s t
DidTake w s d (Err NoSuchDesk) t = (s.limits.desks ≤ d) × (t ≡ s)
DidTake w s d (Err DeskEmpty) t = (d < s.limits.desks) × (desk_of s d ≡ None) × (t ≡ s)
DidTake w s d (Err _) t = ⊥

-- a worker's call on the lists
abbrev pub DidPlain : ℕ → Lists → Call → Lists → Type 0
DidPlain w s (GetList n answer) t = DidGet w s n answer t
DidPlain w s (PutList xs answer) t = DidPut s xs answer t
DidPlain w s (Claim i) t = (0 < hand_of s w i) × (t ≡ after_claim w i s)
DidPlain w s (CountOf i n) t = (n ≡ held_count (place_of s i)) × (t ≡ s)
DidPlain w s (Raise i answer) t = DidRaise w s i answer t
DidPlain w s (Lower i answer) t = DidLower w s i answer t
DidPlain w s (Offer d packet answer) t = DidOffer w s d packet answer t
DidPlain w s (Take d answer) t = DidTake w s d answer t
DidPlain w s (CommonCount n) t = (n ≡ length s.common) × (t ≡ s)

-- the word of a desk on the lists
abbrev pub desk_word : Option (List Seg) → ℕ
desk_word None = desk_empty
desk_word (Some packet) = desk_full

-- what a call on the lists reads; a desk that isn't there has no word
abbrev pub read_by : Lists → Call → List Reading
read_by s (GetList n (Err NoEntries)) = Length (length s.common) ∷ []
read_by s (GetList n _) = Length (length s.common) ∷ Head s.changes ∷ []
read_by s (PutList xs _) = Head s.changes ∷ []
read_by s (Claim i) = []
read_by s (CountOf i _) = Count i (held_count (place_of s i)) ∷ []
read_by s (Raise i _) = Count i (held_count (place_of s i)) ∷ []
read_by s (Lower i _) = Count i (held_count (place_of s i)) ∷ []
read_by s (Offer d packet (Err NoSuchDesk)) = []
read_by s (Offer d packet _) = Desk d (desk_word (desk_of s d)) ∷ []
read_by s (Take d (Err NoSuchDesk)) = []
read_by s (Take d _) = Desk d (desk_word (desk_of s d)) ∷ []
read_by s (CommonCount n) = Length (length s.common) ∷ []

-- what the other workers have is as before
pub record KeepsOthers (w : ℕ) (s t : Lists) : Type 0 where
  pub hands : (v i : ℕ) → v ≢ w → hand_of t v i ≡ hand_of s v i
  pub holds : (v i : ℕ) → 1 ≤ v → v ≢ w → holds_of t v i ≡ holds_of s v i
  pub headers : (v i : ℕ) → v ≢ w → header_of t v i ≡ header_of s v i

-- a worker's call on the lists: what it did, what it read, and that table and others are kept
pub record DidOnLists (w : ℕ) (s : Lists) (call : Call) (rs : List Reading) (t : Lists) : Type 0 where
  pub did : DidPlain w s call t
  pub read : rs ≡ read_by s call
  pub before : IsTable s
  pub after : IsTable t
  pub others : KeepsOthers w s t
