-- The guests of the first pool are the bases of foreign clones, and these hold in the second pool
-- their own elements alone.
use Rattle.std.proofs.Common.{ℕ, ◌≡◌, ◌+◌, ◌≤◌, List, [], ◌∷◌, ◌++◌, drop, get_or, length, map, true, Option, Some, None, refl, ap, arith}
use Rattle.std.specs.Prelude.{All, flat_map, sum_by}
use Rattle.std.specs.List.{range_with_len}
use Rattle.std.proofs.lemmas.List.Elements.{All-append, All-cons, All-nil}
use Rattle.std.proofs.lemmas.List.Sums.{sum_by-cons}
use Rattle.commons.specs.Bag.{bag, one}
use Rattle.commons.specs.declared.packet.Seg.{Seg}
use Rattle.commons.specs.Packets.{held_in, hold_of, holds_in_slot, holds_of_packet, holds_of_seg, own_in, own_in_slot, own_of_packet}
use Rattle.commons.proofs.Bags.{bag-append, bag-cons, bag-nil, bag-single}
use Rattle.mbuf.specs.Foreign.{bases_in, bases_in_slot, bases_of_packet}
use Rattle.mbuf.specs.Members.{Member}
use Rattle.pool_statement.specs.declared.guest.Guest.{Guest}
use Rattle.pool_model.specs.Guests.{AreOfWorkers, guest_holds, guest_of, guests_by, guests_for, guests_in_slot, local_packet, local_place, local_seg, local_table}

-- guests in two parts
holds_append : (a b : List Guest) (i : ℕ) → guest_holds (a ++ b) i ≡ guest_holds a i + guest_holds b i
holds_append [] b i = omega arith
holds_append (g ∷ a) b i = omega (
  arith,
  holds_append a b i,
  sum_by-cons (λ (guest : Guest). one guest.elem i) g (a ++ b),
  sum_by-cons (λ (guest : Guest). one guest.elem i) g a,
)

-- a worker's guests for a base
base_held : (w : ℕ) (base : Option ℕ) (i : ℕ) → guest_holds (map (guest_of w) (hold_of base)) i ≡ bag (hold_of base) i
base_held w None i = omega (arith, bag-nil i)
base_held w (Some e) i = omega (
  arith,
  sum_by-cons (λ (guest : Guest). one guest.elem i) (guest_of w e) [],
  bag-single e i,
)

-- for a packet
packet_held : (w : ℕ) (segs : List Seg) (i : ℕ) → guest_holds (guests_for w segs) i ≡ bag (bases_of_packet segs) i
packet_held w [] i = omega (arith, bag-nil i)
packet_held w (seg ∷ segs) i = omega (
  arith,
  packet_held w segs i,
  base_held w seg.base i,
  holds_append (map (guest_of w) (hold_of seg.base)) (guests_for w segs) i,
  bag-append (hold_of seg.base) (bases_of_packet segs) i,
)

slot_held : (w : ℕ) (slot : Option (List Seg)) (i : ℕ) → guest_holds (guests_in_slot w slot) i ≡ bag (bases_in_slot slot) i
slot_held w None i = omega (arith, bag-nil i)
slot_held w (Some segs) i = packet_held w segs i

-- for a table
table_held : (w : ℕ) (table : List (Option (List Seg))) (i : ℕ) →
    guest_holds (flat_map (guests_in_slot w) table) i ≡ bases_in table i
table_held w [] i = omega arith
table_held w (slot ∷ table) i = omega (
  arith,
  table_held w table i,
  slot_held w slot i,
  holds_append (guests_in_slot w slot) (flat_map (guests_in_slot w) table) i,
  sum_by-cons (λ (s : Option (List Seg)). bag (bases_in_slot s) i) slot table,
)

-- so guests are an element as often as all foreign clones have it as a base
pub guests_are_bases : (members : List Member) (i : ℕ) →
    guest_holds (flat_map guests_by members) i ≡ sum_by (λ (m : Member). bases_in m.table i) members
guests_are_bases [] i = omega arith
guests_are_bases (m ∷ members) i = omega (
  arith,
  guests_are_bases members i,
  table_held m.number m.table i,
  holds_append (guests_by m) (flat_map guests_by members) i,
  sum_by-cons (λ (x : Member). bases_in x.table i) m members,
)

-- ---- whose guests they are

abbrev IsOfWorker : ℕ → Guest → Type 0
IsOfWorker workers guest = (1 ≤ guest.worker) × (guest.worker ≤ workers)

module _ (workers w : ℕ) (of : (1 ≤ w) × (w ≤ workers)) where
  bases_of_worker : (elems : List ℕ) → All (IsOfWorker workers) (map (guest_of w) elems)
  bases_of_worker [] = All-nil (IsOfWorker workers)
  bases_of_worker (e ∷ elems) =
      All-cons (IsOfWorker workers) (guest_of w e) (map (guest_of w) elems) of (bases_of_worker elems)

  packet_of_worker : (segs : List Seg) → All (IsOfWorker workers) (guests_for w segs)
  packet_of_worker [] = All-nil (IsOfWorker workers)
  packet_of_worker (seg ∷ segs) =
      All-append (IsOfWorker workers) (map (guest_of w) (hold_of seg.base)) (guests_for w segs)
      (bases_of_worker (hold_of seg.base)) (packet_of_worker segs)

  slot_of_worker : (slot : Option (List Seg)) → All (IsOfWorker workers) (guests_in_slot w slot)
  slot_of_worker None = All-nil (IsOfWorker workers)
  slot_of_worker (Some segs) = packet_of_worker segs

  table_of_worker : (table : List (Option (List Seg))) → All (IsOfWorker workers) (flat_map (guests_in_slot w) table)
  table_of_worker [] = All-nil (IsOfWorker workers)
  table_of_worker (slot ∷ table) =
      All-append (IsOfWorker workers) (guests_in_slot w slot) (flat_map (guests_in_slot w) table)
      (slot_of_worker slot) (table_of_worker table)

-- guests of members who are numbered in a row are of workers with these numbers
pub guests_of_workers : (workers number : ℕ) (members : List Member) → 1 ≤ number →
    number + length members ≤ workers + 1 → map (λ (m : Member). m.number) members ≡ range_with_len number (length members) →
    AreOfWorkers workers (flat_map guests_by members)
guests_of_workers workers number [] low high n = All-nil (IsOfWorker workers)
guests_of_workers workers number (m ∷ members) low high n =
    let first : m.number ≡ number = ap (λ (ns : List ℕ). get_or ns 0 0) n in
    let rest = ap (λ (ns : List ℕ). drop 1 ns) n in
    All-append (IsOfWorker workers) (guests_by m) (flat_map guests_by members)
    (table_of_worker workers m.number (omega (arith, first, low), omega (arith, first, high)) m.table)
    (guests_of_workers workers (number + 1) members (omega arith) (omega (arith, high)) rest)

-- ---- own elements

-- a packet as the second pool sees it holds its own elements
local_packet_holds : (segs : List Seg) (i : ℕ) →
    bag (holds_of_packet (local_packet true segs)) i ≡ bag (own_of_packet segs) i
local_packet_holds [] i = refl
local_packet_holds (seg ∷ segs) i = omega (
  arith,
  local_packet_holds segs i,
  bag-append (holds_of_seg (local_seg true seg)) (holds_of_packet (local_packet true segs)) i,
  bag-single seg.elem i,
  bag-cons seg.elem (own_of_packet segs) i,
)

local_slot_holds : (slot : Option (List Seg)) (i : ℕ) →
    bag (holds_in_slot (local_place true slot)) i ≡ bag (own_in_slot slot) i
local_slot_holds None i = refl
local_slot_holds (Some segs) i = local_packet_holds segs i

-- and so a table
pub local_holds : (table : List (Option (List Seg))) (i : ℕ) → held_in (local_table true table) i ≡ own_in table i
local_holds [] i = refl
local_holds (slot ∷ table) i = omega (
  arith,
  local_holds table i,
  local_slot_holds slot i,
  sum_by-cons (λ (s : Option (List Seg)). bag (holds_in_slot s) i) (local_place true slot) (local_table true table),
  sum_by-cons (λ (s : Option (List Seg)). bag (own_in_slot s) i) slot table,
)

-- ---- sums over workers

-- sums of what is the same of each
pub sum_same : {X : Type 0} (f g : X → ℕ) (xs : List X) → ((x : X) → f x ≡ g x) → sum_by f xs ≡ sum_by g xs
sum_same f g xs same = λ j. sum_by (λ x. same x j) xs

-- sums of two terms
pub sum_both : {X : Type 0} (f g : X → ℕ) (xs : List X) → sum_by (λ x. f x + g x) xs ≡ sum_by f xs + sum_by g xs
sum_both f g [] = omega arith
sum_both f g (x ∷ xs) = omega (
  arith,
  sum_both f g xs,
  sum_by-cons (λ y. f y + g y) x xs,
  sum_by-cons f x xs,
  sum_by-cons g x xs,
)
