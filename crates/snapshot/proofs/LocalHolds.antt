-- What packets hold of their own pool, segment by segment and place by place.
use Rattle.std.proofs.Common.{ℕ, ◌≡◌, ◌+◌, ◌<◌, ◌≤◌, Bool, List, length, get_or, take, Option, arith}
use Rattle.std.specs.Prelude.{sum_by}
use Rattle.std.proofs.lemmas.List.Sums.{get_or-le-sum_by, sum_by-take-le, sum_by_more}
use Rattle.commons.specs.Bag.{bag}
use Rattle.commons.specs.Packets.{held_in, holds_in_slot, holds_of_packet, holds_of_seg}
use Rattle.commons.specs.declared.packet.Seg.{Seg}
use Rattle.pool_model.specs.Guests.{local_packet, local_place, local_seg, local_table}
use Rattle.pool_model.proofs.LocalPools.{held-local}
use Rattle.snapshot.proofs.MappedSums.{sum_by-map}
use Rattle.snapshot.proofs.NamedSums.{packet-sum}

-- ---- a packet

pub packet-local : (foreign : Bool) (segs : List Seg) (i : ℕ) →
    bag (holds_of_packet (local_packet foreign segs)) i
    ≡ sum_by (λ (seg : Seg). bag (holds_of_seg (local_seg foreign seg)) i) segs
packet-local foreign segs i = omega (
  arith,
  packet-sum (local_packet foreign segs) i,
  sum_by-map (λ (seg : Seg). bag (holds_of_seg seg) i) (local_seg foreign) segs,
)

-- one segment more
pub packet-more : (foreign : Bool) (segs : List Seg) (k i : ℕ) (d : Seg) → k < length segs →
    bag (holds_of_packet (local_packet foreign (take (k + 1) segs))) i
    ≡ bag (holds_of_packet (local_packet foreign (take k segs))) i
    + bag (holds_of_seg (local_seg foreign (get_or segs k d))) i
packet-more foreign segs k i d l = omega (
  arith,
  packet-local foreign (take (k + 1) segs) i,
  packet-local foreign (take k segs) i,
  sum_by_more (λ (seg : Seg). bag (holds_of_seg (local_seg foreign seg)) i) segs k d l,
)

-- some of its segments hold no more than all
pub packet-so_far : (foreign : Bool) (segs : List Seg) (k i : ℕ) →
    bag (holds_of_packet (local_packet foreign (take k segs))) i ≤ bag (holds_of_packet (local_packet foreign segs)) i
packet-so_far foreign segs k i = omega (
  arith,
  packet-local foreign (take k segs) i,
  packet-local foreign segs i,
  sum_by-take-le (λ (seg : Seg). bag (holds_of_seg (local_seg foreign seg)) i) segs k,
)

-- ---- a table

-- one place more
pub table-more : (foreign : Bool) (table : List (Option (List Seg))) (k i : ℕ) (d : Option (List Seg)) →
    k < length table →
    held_in (local_table foreign (take (k + 1) table)) i
    ≡ held_in (local_table foreign (take k table)) i + bag (holds_in_slot (local_place foreign (get_or table k d))) i
table-more foreign table k i d l = omega (
  arith,
  held-local foreign (take (k + 1) table) i,
  held-local foreign (take k table) i,
  sum_by_more (λ (place : Option (List Seg)). bag (holds_in_slot (local_place foreign place)) i) table k d l,
)

-- what one place holds, the table holds
pub table-part : (foreign : Bool) (table : List (Option (List Seg))) (k i : ℕ) (d : Option (List Seg)) →
    k < length table →
    bag (holds_in_slot (local_place foreign (get_or table k d))) i ≤ held_in (local_table foreign table) i
table-part foreign table k i d l = omega (
  arith,
  held-local foreign table i,
  get_or-le-sum_by (λ (place : Option (List Seg)). bag (holds_in_slot (local_place foreign place)) i) table k d l,
)
