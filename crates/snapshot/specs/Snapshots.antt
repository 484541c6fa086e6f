-- A snapshot read as a pool: what is free in it, and what is held.
use Rattle.std.specs.Prelude.{ℕ, zero, suc, ◌≡◌, ◌<◌, ◌≤◌, ◌+◌, ◌*◌, ◌^◌, min, max, nat_lt, if◌then◌else◌, List, [], ◌∷◌, All, Contains, Some, map, length, slice_index, sum_by, ◌⊎◌}
use Rattle.std.specs.List.{range_with_len}
use Rattle.commons.specs.Bag.{bag}
use Rattle.commons.specs.Packets.{IsPacket, own_in}
use Rattle.commons.specs.declared.packet.Seg.{Seg}
use Rattle.mbuf.specs.Members.{Member, slots}
use Rattle.pool_model.specs.Guests.{AreOfWorkers, ListsEachOnceWith, held_with, local_pool, local_statement, statement_with}
use Rattle.pool_model.specs.Pool.{Pool}
use Rattle.pool_statement.specs.declared.statement.Statement.{Statement}
use Rattle.snapshot.specs.declared.snapshot.ShareData.{ShareData}
use Rattle.snapshot.specs.declared.snapshot.Snapshot.{Snapshot}

-- The words that are met from a word on, along these links, this many after it at most. A word
-- names an element by one more, and none by 0. The way ends at 0, and at a word above the
-- population.
abbrev pub words_from : ℕ → ℕ → List ℕ → ℕ → List ℕ
words_from most population links zero = zero ∷ []
words_from zero population links (suc e) = suc e ∷ []
words_from (suc most) population links (suc e) =
    suc e
    ∷ (if nat_lt e population then words_from most population links (slice_index links e) else [])

-- the elements of the population that words name
abbrev pub elements_of : ℕ → List ℕ → List ℕ
elements_of population [] = []
elements_of population (zero ∷ words) = elements_of population words
elements_of population (suc e ∷ words) =
    if nat_lt e population then e ∷ elements_of population words else elements_of population words

-- the words that are met from the top on, as many as there are elements after it
abbrev pub words_met : Snapshot → List ℕ
words_met s = words_from s.limits.population s.limits.population s.links s.top

-- the walk: the elements that they name
abbrev pub walk : Snapshot → List ℕ
walk s = elements_of s.limits.population (words_met s)

-- a share as its worker's cache and packets
abbrev pub member_of : Snapshot → ShareData → Member
member_of s share = record
    { limits = s.limits; number = share.worker; cache = share.cache; table = share.slots }

-- the pool that a snapshot shows
abbrev pub pool_of : Snapshot → Pool
pool_of s = record {
  limits = s.limits;
  shared = record { common = walk s; changes = 0; desks = s.desks };
  members = map (member_of s) s.shares;
}

-- how often an element stands on the walk and in caches
abbrev pub times_free : Snapshot → ℕ → ℕ
times_free s e = bag (walk s) e + sum_by (λ share. bag share.cache e) s.shares

-- and that pool as it sees itself: without the bases of its packets, where those are foreign
abbrev pub own_pool : Snapshot → Pool
own_pool s = local_pool s.foreign (pool_of s)

-- how often it is held: for guests, and by packets, in slots and on desks, as element or as base
abbrev pub times_held : Snapshot → ℕ → ℕ
times_held s e = held_with s.guests (own_pool s).members (own_pool s).shared.desks e

-- how often it is the own element of a segment of theirs
abbrev pub times_own : Snapshot → ℕ → ℕ
times_own s e = sum_by (λ share. own_in share.slots e) s.shares + own_in s.desks e

-- how often caches, packets and guests name it
abbrev pub times_named : Snapshot → ℕ → ℕ
times_named s e = sum_by (λ share. bag share.cache e) s.shares + times_held s e

-- a packet of the snapshot, in a slot or on a desk
abbrev pub HasPacket : Snapshot → List Seg → Type 0
HasPacket s segs =
    Contains s.desks (Some segs)
    ⊎ ((share : ShareData) × Contains s.shares share × Contains share.slots (Some segs))

-- the most guests that a worker may have: the segments of as many packets as a table has room for
abbrev pub most_guests : ℕ
most_guests = 8192

-- the most places of a share: a place has a number of 32 bits
abbrev pub most_places : ℕ
most_places = 2 ^ 32

-- One link and one count for each element, a place for each desk, and a share for each worker in
-- order, each with no more places than have a number. Guests are of these workers, and no more
-- than their packets may have bases.
pub record HasShape (s : Snapshot) : Type 0 where
  pub links : length s.links ≡ s.limits.population
  pub counts : length s.counts ≡ s.limits.population
  pub desks : length s.desks ≡ s.limits.desks
  pub shares : map (λ share. share.worker) s.shares ≡ range_with_len 1 s.limits.workers
  pub places : All (λ share. length share.slots ≤ most_places) s.shares
  pub guests : AreOfWorkers s.limits.workers s.guests
  pub few : length s.guests ≤ s.limits.workers * most_guests

-- Each element of the pool is in one place, and nothing else is anywhere: it is on the walk or in
-- a cache, once, or held; its count is the number of its holds, and 1 where nobody holds it. The
-- length word is the walk's length. Each packet is one, and each element is the own one of at most
-- one segment.
pub record IsLawful (s : Snapshot) : Type 0 where
  pub shape : HasShape s
  pub words : All (λ word. word ≤ s.limits.population) (words_met s)
  pub ends : length (walk s) ≤ s.limits.population
  pub len : s.length ≡ length (walk s)
  pub known : (e : ℕ) → s.limits.population ≤ e → times_named s e ≡ 0
  pub packets : (segs : List Seg) → HasPacket s segs → IsPacket segs
  pub own_once : (e : ℕ) → times_own s e ≤ 1
  pub once : (e : ℕ) → e < s.limits.population → times_free s e + min 1 (times_held s e) ≡ 1
  pub counted : (e : ℕ) → e < s.limits.population → slice_index s.counts e ≡ max 1 (times_held s e)

-- its statement: that of the pool that it shows, with its guests
abbrev pub statement_in : Snapshot → Statement
statement_in s = statement_with s.foreign s.guests (pool_of s)

-- The statement lists each element of the pool exactly once, as the pool sees itself: bases of its
-- packets that are foreign aren't elements of it, and its guests are.
abbrev pub ListsItsElements : Snapshot → Statement → Type 0
ListsItsElements s statement = ListsEachOnceWith s.guests (local_statement s.foreign statement)

-- each share has a place for each slot of a worker's table
abbrev pub HasSlots : Snapshot → Type 0
HasSlots s = All (λ share. length share.slots ≡ slots) s.shares
