-- How often an element is held at most, where each is the own one of one segment at most.
use Rattle.std.proofs.Common.{ℕ, ◌≡◌, ◌+◌, ◌*◌, ◌<◌, ◌≤◌, inl, inr, Bool, List, [], ◌∷◌, ◌++◌, length, get_or, Option, Some, None, arith}
use Rattle.std.specs.Prelude.{flat_map, sum_by}
use Rattle.std.proofs.lemmas.List.{length-append, length-map}
use Rattle.std.proofs.lemmas.List.Concat.{length-flat_map}
use Rattle.std.proofs.lemmas.List.Sums.{sum_by-cons, sum_by-le, sum_by-le-sum_by}
use Rattle.std.proofs.lemmas.Bool.{cases_lt}
use Rattle.std.proofs.lemmas.Bool.Decides.{nat_tests}
use Rattle.commons.specs.Bag.{bag, one}
use Rattle.commons.specs.Bounds.{IsPool}
use Rattle.commons.specs.Packets.{hold_of, holds_of_packet, holds_of_seg, holds_in_slot, held_in, own_in, own_in_slot}
use Rattle.commons.specs.declared.packet.Seg.{Seg}
use Rattle.commons.proofs.Bags.{bag-nil, bag-append, bag-single, length-le}
use Rattle.commons.proofs.PacketBags.{bag-seg, own_in-held}
use Rattle.pool_statement.specs.declared.guest.Guest.{Guest}
use Rattle.pool_model.specs.Guests.{guest_holds, local_packet, local_place, local_seg, local_table}
use Rattle.pool_model.proofs.Listed.{bag-flat_map}
use Rattle.pool_model.proofs.LocalPools.{held-local, own_in-local}
use Rattle.snapshot.specs.declared.snapshot.ShareData.{ShareData}
use Rattle.snapshot.specs.declared.snapshot.Snapshot.{Snapshot}
use Rattle.snapshot.specs.Snapshots.{HasShape, times_held, times_named, times_own}
use Rattle.snapshot.specs.inside.Tallies.{IsRow}
use Rattle.snapshot.proofs.Meetings.{row-once}
use Rattle.snapshot.proofs.Times.{held-is}

one-le : (x i : ℕ) → one x i ≤ 1
one-le x i = grind (arith, nat_tests)

-- a segment holds its base once, where it has one
base-le : (base : Option ℕ) (i : ℕ) → bag (hold_of base) i ≤ 1
base-le None i = omega (arith, bag-nil i)
base-le (Some e) i = omega (arith, bag-single e i, one-le e i)

-- a segment holds an element twice at most
packet-le : (segs : List Seg) (i : ℕ) → bag (holds_of_packet segs) i ≤ 2 * length segs
packet-le [] i = omega (arith, bag-nil i)
packet-le (seg ∷ segs) i =
    omega (
      arith,
      packet-le segs i,
      bag-append (holds_of_seg seg) (holds_of_packet segs) i,
      bag-seg seg i,
      base-le seg.base i,
      one-le seg.elem i,
    )

-- what stands in a place has half as many own elements as holds, at least
place-le : (foreign : Bool) (place : Option (List Seg)) (i : ℕ) →
    bag (holds_in_slot (local_place foreign place)) i ≤ 2 * length (own_in_slot place)
place-le foreign None i = omega (arith, bag-nil i)
place-le foreign (Some segs) i =
    omega (
      arith,
      packet-le (local_packet foreign segs) i,
      length-map segs (local_seg foreign),
      length-map segs (λ (seg : Seg). seg.elem),
    )

-- where each term is at most twice another, so is the sum
sum-twice : {X : Type 0} (f g : X → ℕ) → ((x : X) → f x ≤ 2 * g x) → (xs : List X) →
    sum_by f xs ≤ 2 * sum_by g xs
sum-twice f g each [] = omega arith
sum-twice f g each (x ∷ xs) =
    omega (arith, each x, sum-twice f g each xs, sum_by-cons f x xs, sum_by-cons g x xs)

-- the own elements of a table's packets, one after another, and those of a snapshot
abbrev owns_of : List (Option (List Seg)) → List ℕ
owns_of table = flat_map own_in_slot table

abbrev all_owns : Snapshot → List ℕ
all_owns s = flat_map (λ (share : ShareData). owns_of share.slots) s.shares ++ owns_of s.desks

-- a table's packets hold an element at most twice as often as they have own elements
table-le : (foreign : Bool) (table : List (Option (List Seg))) (i : ℕ) →
    held_in (local_table foreign table) i ≤ 2 * length (owns_of table)
table-le foreign table i =
    let places = sum-twice (λ (place : Option (List Seg)). bag (holds_in_slot (local_place foreign place)) i)
    (λ place. length (own_in_slot place)) (λ place. place-le foreign place i) table in
    omega (arith, places, held-local foreign table i, length-flat_map own_in_slot table)

-- so do all of a snapshot
packets-le : (s : Snapshot) (i : ℕ) →
    sum_by (λ share. held_in (local_table s.foreign share.slots) i) s.shares + held_in (local_table s.foreign s.desks) i
    ≤ 2 * length (all_owns s)
packets-le s i =
    let owns = λ (share : ShareData). owns_of share.slots in
    let shares = sum-twice (λ (share : ShareData). held_in (local_table s.foreign share.slots) i)
    (λ share. length (owns share)) (λ share. table-le s.foreign share.slots i) s.shares in
    omega (
      arith,
      shares,
      table-le s.foreign s.desks i,
      length-append (flat_map owns s.shares) (owns_of s.desks),
      length-flat_map owns s.shares,
    )

-- an element is no more often among them than it is the own one of a segment
owns-le : (s : Snapshot) (i : ℕ) → bag (all_owns s) i ≤ times_own s i
owns-le s i =
    let owns = λ (share : ShareData). owns_of share.slots in
    let each = sum_by-le-sum_by (λ (share : ShareData). bag (owns share) i) (λ share. own_in share.slots i) s.shares
    (λ share. omega (arith, bag-flat_map own_in_slot share.slots i)) in
    omega (
      arith,
      each,
      bag-append (flat_map owns s.shares) (owns_of s.desks) i,
      bag-flat_map owns s.shares i,
      bag-flat_map own_in_slot s.desks i,
    )

-- an own element is held
own-held : (foreign : Bool) (table : List (Option (List Seg))) (i : ℕ) →
    own_in table i ≤ held_in (local_table foreign table) i
own-held foreign table i = omega (arith, own_in-local foreign table i, own_in-held (local_table foreign table) i)

pub own-le : (s : Snapshot) (i : ℕ) → times_own s i ≤ times_held s i
own-le s i =
    let shares = sum_by-le-sum_by (λ (share : ShareData). own_in share.slots i)
    (λ share. held_in (local_table s.foreign share.slots) i) s.shares
    (λ share. own-held s.foreign share.slots i) in
    omega (arith, shares, own-held s.foreign s.desks i, held-is s i)

-- so there are no more segments than elements, where no element is the own one of two
owns-few : (s : Snapshot) → ((e : ℕ) → s.limits.population ≤ e → times_named s e ≡ 0) →
    ((e : ℕ) → times_own s e ≤ 1) → length (all_owns s) ≤ s.limits.population
owns-few s known once =
    length-le s.limits.population (all_owns s) (λ i. omega (arith, owns-le s i, once i))
    (λ i past. omega (arith, owns-le s i, own-le s i, known i past))

-- guests are an element as often as they are many, at most
guests-le : (guests : List Guest) (i : ℕ) → guest_holds guests i ≤ length guests * 1
guests-le guests i =
    sum_by-le (λ (guest : Guest). one guest.elem i) 1 guests (λ k d l. one-le (get_or guests k d).elem i)

-- so an element is held less often than a row can count, by however many packets
pub held-few : (s : Snapshot) (i : ℕ) → IsPool s.limits → HasShape s →
    ((e : ℕ) → s.limits.population ≤ e → times_named s e ≡ 0) → ((e : ℕ) → times_own s e ≤ 1) →
    times_held s i < 4294967295
held-few s i pool shape known once =
    omega (
      arith,
      held-is s i,
      packets-le s i,
      owns-few s known once,
      guests-le s.guests i,
      shape.few,
      pool.workers,
      pool.population,
    )

pub held-le : (s : Snapshot) (i : ℕ) → IsPool s.limits → HasShape s →
    ((e : ℕ) → s.limits.population ≤ e → times_named s e ≡ 0) → ((e : ℕ) → times_own s e ≤ 1) →
    times_held s i ≤ 4294967295
held-le s i pool shape known once = omega (arith, held-few s i pool shape known once)

-- where no number of the row of own elements is above 1, none is the own one of two segments
pub own-once : (s : Snapshot) (row : List ℕ) → ((e : ℕ) → s.limits.population ≤ e → times_named s e ≡ 0) →
    IsRow s.limits.population (times_own s) row → ((i : ℕ) → i < length row → get_or row i 0 ≤ 1) →
    (e : ℕ) → times_own s e ≤ 1
own-once s row known is once e = elim (cases_lt e s.limits.population) [
  | inl within ↦ row-once s.limits.population (times_own s) row is once e within
  | inr past ↦ omega (arith, own-le s e, known e past)
]
