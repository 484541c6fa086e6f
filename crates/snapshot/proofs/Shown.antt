-- The pool that a lawful snapshot shows has each element in one place, and its workers in order.
use Rattle.std.proofs.Common.{ℕ, zero, suc, ◌≡◌, ◌+◌, ◌-◌, ◌<◌, ◌≤◌, inl, inr, nat_lt, cond, List, [], ◌∷◌, length, map, get_or, Option, None, Some, false, refl, sym, subst, ◌∙◌, ap, arith}
use Rattle.std.specs.Prelude.{flat_map, min, sum_by}
use Rattle.std.specs.List.{range_with_len}
use Rattle.std.proofs.lemmas.Bool.{cases_lt, cond-true, cond-false, lt-ltb, le-ltb}
use Rattle.std.proofs.lemmas.List.{get_or-map, length-map}
use Rattle.std.proofs.lemmas.List.Elements.{All-contains, All-weaker, Contains-get_or}
use Rattle.std.proofs.lemmas.List.FromFn.{length-range_with_len}
use Rattle.commons.specs.Bag.{bag}
use Rattle.commons.specs.Packets.{own_in}
use Rattle.commons.specs.declared.packet.Seg.{Seg}
use Rattle.commons.proofs.PacketBags.{stands_within}
use Rattle.mbuf.specs.Members.{Member, slots}
use Rattle.pool_model.specs.Guests.{AreOfWorkers, ListsEachOnceWith, statement_with}
use Rattle.pool_model.proofs.GuestsListed.{IsBalancedWith, lists_each_once_with}
use Rattle.pool_model.proofs.Listed.{sum_by-map}
use Rattle.pool_model.proofs.LocalPools.{cached-local, length-local, local-available, local-in_use, local-population, local-common, local-in_order, local-limits, own_of-local, statement-local}
use Rattle.pool_model.proofs.Numbered.{AreInOrder}
use Rattle.pool_model.proofs.Placed.{IsInTable, IsOfWorkers, OnDesks, desks_from-desks, desks_from-order, packets-in_tables, packets-order, packets-workers}
use Rattle.pool_statement.specs.declared.statement.PlacedPacket.{PlacedPacket}
use Rattle.pool_statement.specs.declared.statement.Statement.{Statement}
use Rattle.pool_model.specs.Statements.{PlacesEachOnce, desks_from, packets_of}
use Rattle.snapshot.specs.declared.snapshot.ShareData.{ShareData}
use Rattle.snapshot.specs.declared.snapshot.Snapshot.{Snapshot}
use Rattle.snapshot.specs.Places.{IsInItsShare, PlacesItsPackets}
use Rattle.snapshot.specs.Snapshots.{HasShape, HasSlots, IsLawful, ListsItsElements, member_of, own_pool, pool_of, statement_in, times_free, times_held}
use Rattle.snapshot.proofs.Clean.{nowhere_past}

-- what all caches have, and what is own in all tables
caches_shown : (s : Snapshot) (i : ℕ) → sum_by (λ (m : Member). bag m.cache i) (pool_of s).members ≡ sum_by
    (λ (share : ShareData). bag share.cache i) s.shares
caches_shown s i = sum_by-map (λ (m : Member). bag m.cache i) (member_of s) s.shares

-- the pool that a snapshot shows has the own elements of its shares
own_shown : (s : Snapshot) (i : ℕ) → sum_by (λ (m : Member). own_in m.table i) (pool_of s).members ≡ sum_by
    (λ (share : ShareData). own_in share.slots i) s.shares
own_shown s i = sum_by-map (λ (m : Member). own_in m.table i) (member_of s) s.shares

-- each element is in one place
placed_shown : (s : Snapshot) → IsLawful s → (i : ℕ) →
    times_free s i + min 1 (times_held s i) ≡ cond (nat_lt i s.limits.population) 1 0
placed_shown s h i = elim (cases_lt i s.limits.population) [
  | inl within ↦
      h.once i within
      ∙ sym (cond-true (nat_lt i s.limits.population) 1 0 (lt-ltb i s.limits.population within))
  | inr past ↦
      let none : times_free s i + min 1 (times_held s i) ≡ 0 = omega (arith, nowhere_past s h.known i past) in
      none ∙ sym (cond-false (nat_lt i s.limits.population) 1 0 (le-ltb i s.limits.population past))
]

-- a lawful snapshot has each element in one place, and so has the pool that it shows
pub shows_balanced : (s : Snapshot) → IsLawful s → IsBalancedWith s.guests (own_pool s)
shows_balanced s h = record {
  placed = λ i. rw (local-common s.foreign (pool_of s), local-limits s.foreign (pool_of s)) (omega (
    arith,
    placed_shown s h i,
    caches_shown s i,
    cached-local s.foreign (pool_of s) i,
  ));
  own = λ i. omega (arith, h.own_once i, own_shown s i, own_of-local s.foreign (pool_of s) i);
}

-- shares with numbers in a row
in_order : (s : Snapshot) (number n : ℕ) (shares : List ShareData) →
    map (λ (share : ShareData). share.worker) shares ≡ range_with_len number n →
    AreInOrder number (map (member_of s) shares)
in_order s number n [] e = tt
in_order s number zero (share ∷ shares) e = absurd (cc)
in_order s number (suc n) (share ∷ shares) e =
    let first : share.worker ≡ number = cc in
    let rest : map (λ (share : ShareData). share.worker) shares ≡ range_with_len (number + 1) n = cc in
    (first, in_order s (number + 1) n shares rest)

pub shows_in_order : (s : Snapshot) → HasShape s → AreInOrder 1 (pool_of s).members
shows_in_order s h = in_order s 1 s.limits.workers s.shares h.shares

-- it has as many members as its limits have workers
shows_workers : (s : Snapshot) → HasShape s → length (pool_of s).members ≡ s.limits.workers
shows_workers s h =
    length-map s.shares (member_of s) ∙ sym (length-map s.shares (λ (share : ShareData). share.worker))
    ∙ ap length h.shares ∙ length-range_with_len 1 s.limits.workers

-- and guests are of these
pub shows_guests : (s : Snapshot) → HasShape s → AreOfWorkers (length (own_pool s).members) s.guests
shows_guests s h =
    let many : s.limits.workers ≡ length (own_pool s).members =
    sym (length-local s.foreign (pool_of s) ∙ shows_workers s h) in
    subst (λ (workers : ℕ). AreOfWorkers workers s.guests) many h.guests

-- so its statement lists each element once, as the pool sees itself
pub lawful_lists_own : (s : Snapshot) → IsLawful s →
    ListsEachOnceWith s.guests (statement_with false s.guests (own_pool s))
lawful_lists_own s h =
    lists_each_once_with s.guests (own_pool s) (shows_balanced s h)
    (local-in_order s.foreign (pool_of s) (shows_in_order s h.shape)) (shows_guests s h.shape)

pub lawful_lists_once : (s : Snapshot) → IsLawful s → ListsItsElements s (statement_in s)
lawful_lists_once s h =
    subst (ListsEachOnceWith s.guests) (sym (statement-local s.foreign s.guests (pool_of s))) (lawful_lists_own s h)

-- what is available and what is in use are the population
pub lawful_whole : (s : Snapshot) → IsLawful s →
    (statement_in s).available + (statement_in s).in_use ≡ s.limits.population
lawful_whole s h =
    let statement = statement_in s in
    omega (
      arith,
      (lawful_lists_once s h).whole,
      local-available s.foreign statement,
      local-in_use s.foreign statement,
      local-population s.foreign statement,
    )

-- ---- where packets stand

-- stands for a share where there is none
no_share : ShareData
no_share = record { worker = 0; cache = []; slots = [] }

-- what stands in a member's table stands in its share
in_share : (s : Snapshot) (placed : PlacedPacket) → IsInTable (pool_of s).members placed → IsInItsShare s placed
in_share s placed h =
    let k = h.1.0 in
    let share = get_or s.shares k no_share in
    let within : k < length s.shares = omega (arith, h.1.1, length-map s.shares (member_of s)) in
    let is : h.0 ≡ member_of s share = sym h.1.2 ∙ get_or-map (member_of s) s.shares k no_share h.0 within in
    let number : share.worker ≡ placed.worker = ap (λ (m : Member). m.number) (sym is) ∙ sym h.2.0 in
    let table : share.slots ≡ h.0.table = ap (λ (m : Member). m.table) (sym is) in
    let slot : placed.slot ≡ placed.slot - 0 = omega arith in
    let stands : get_or share.slots placed.slot None ≡ Some placed.segs =
    ap (λ (slots : List (Option (List Seg))). get_or slots placed.slot None) table
    ∙ ap (λ (n : ℕ). get_or h.0.table n None) slot ∙ h.2.2 in
    (share, Contains-get_or s.shares k no_share within, number, stands)

-- in a snapshot with the shape of its pool each packet has a place of its own
pub places_packets : (s : Snapshot) → HasShape s → PlacesItsPackets s (statement_in s)
places_packets s h =
    let members = (pool_of s).members in
    let in_order = shows_in_order s h in
    record {
      population = refl;
      caches = length-map members (λ (m : Member). m.cache) ∙ shows_workers s h;
      packets = packets-order 1 members in_order;
      workers =
          All-weaker (IsOfWorkers 1 (1 + length members))
          (λ placed. (1 ≤ placed.worker) × (placed.worker ≤ s.limits.workers))
          (λ placed of. (of.0, omega (arith, of.1, shows_workers s h))) (flat_map packets_of members)
          (packets-workers 1 members in_order);
      placed =
          All-weaker (IsInTable members) (IsInItsShare s) (in_share s) (flat_map packets_of members)
          (packets-in_tables members);
      desks = desks_from-order 0 s.desks;
      on_desks =
          All-weaker (OnDesks 0 (0 + length s.desks)) (λ packet. packet.desk < s.limits.desks)
          (λ packet on. omega (arith, on.1, h.desks)) (desks_from 0 s.desks) (desks_from-desks 0 s.desks);
    }

pub lawful_places : (s : Snapshot) → IsLawful s → PlacesItsPackets s (statement_in s)
lawful_places s h = places_packets s h.shape

-- in a share with a place for each slot it is one of the slots
in_slots : (s : Snapshot) (statement : Statement) → HasSlots s → PlacesItsPackets s statement →
    PlacesEachOnce s.limits statement
in_slots s statement full places = record {
  population = places.population;
  caches = places.caches;
  packets = places.packets;
  slots = λ k d l.
      let placed = get_or statement.packets k d in
      let of = places.workers k d l in
      let at = places.placed k d l in
      let all : length at.0.slots ≡ slots = All-contains (λ share. length share.slots ≡ slots) s.shares at.0 full at.1 in
      (of.0, of.1, omega (arith, all, stands_within at.0.slots placed.slot placed.segs at.3));
  desks = places.desks;
  on_desks = places.on_desks;
}

pub lawful_slots : (s : Snapshot) → HasSlots s → IsLawful s → PlacesEachOnce s.limits (statement_in s)
lawful_slots s full h = in_slots s (statement_in s) full (lawful_places s h)
