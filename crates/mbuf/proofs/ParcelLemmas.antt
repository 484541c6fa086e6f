-- Whose a packet is that leaves a worker's table, or comes into one, with all that it holds.
use Rattle.std.proofs.Common.{◌≡◌, ℕ, ◌≤◌, List, get_or, set, Option, Some, None, Ok, sym, ap, subst, arith}
use Rattle.commons.specs.Bag.{bag}
use Rattle.commons.specs.Calls.{IsOffer, IsTake, Side}
use Rattle.commons.specs.Packets.{own_of_packet, own_in_slot}
use Rattle.commons.specs.declared.packet.Seg.{Seg}
use Rattle.commons.proofs.PacketBags.{own_in-slot, stands_within}
use Rattle.mbuf.specs.Members.{Member}
use Rattle.mbuf.specs.Own.{OwnWith}
use Rattle.mbuf.specs.PacketRules.{free_slot}
use Rattle.mbuf.specs.Parcels.{TakesOut, NothingToTake, WasTakenOut, BringsIn, NoSlotFor, WasBroughtIn, HasPacket}
use Rattle.mbuf.proofs.DeskLemmas.{own_offered, own_taken}
use Rattle.mbuf.proofs.OwnLemmas.{free_slot-is}
use Rattle.mbuf.proofs.SharingLemmas.{in_slot_held}

-- the own elements of a packet that stands in a slot are headers
in_slot_headed : (guests : ℕ → ℕ) (m : Member) (s : Side) (slot : ℕ) (packet : List Seg) (i : ℕ) → OwnWith guests m s →
    get_or m.table slot None ≡ Some packet → bag (own_of_packet packet) i ≤ s.headers i
in_slot_headed guests m s slot packet i own there = omega (
  arith,
  own.headed i,
  own_in-slot m.table slot i (stands_within m.table slot packet there),
  ap (λ (o : Option (List Seg)). bag (own_in_slot o) i) there,
)

-- a worker has what stands in its slots
pub standing_had : (guests : ℕ → ℕ) (m : Member) (s : Side) (slot : ℕ) (packet : List Seg) → OwnWith guests m s →
    get_or m.table slot None ≡ Some packet → HasPacket packet s
standing_had guests m s slot packet own there = record {
  held = λ i. in_slot_held guests m s slot packet i own there;
  headed = λ i. in_slot_headed guests m s slot packet i own there;
  distinct = λ once i. omega (arith, once i, in_slot_headed guests m s slot packet i own there);
}

-- where a packet was taken out, its slot is free
pub taken_out_left : (m after : Member) (slot : ℕ) → TakesOut m slot (Ok tt) after →
    after ≡ record m { table = set m.table slot None }
taken_out_left m after slot (NothingToTake none answer same) = absurd cc
taken_out_left m after slot (WasTakenOut segs there answer is) = is

-- the packet that was brought in stands in what was the lowest free slot
pub brought_in_left : (m after : Member) (slot : ℕ) (packet : List Seg) → BringsIn m packet (Ok slot) after →
    (free_slot m.table ≡ Some slot) × (after ≡ record m { table = set m.table slot (Some packet) })
brought_in_left m after slot packet (NoSlotFor none answer same) = absurd cc
brought_in_left m after slot packet (WasBroughtIn place free answer is) =
    let here : place ≡ slot = cc in
    (rw here at free, rw here at is)

-- without a packet that was taken out, the others are the worker's own
pub own_taken_out : (guests : ℕ → ℕ) (m after : Member) (s t : Side) (slot : ℕ) (packet : List Seg) → OwnWith guests m s →
    get_or m.table slot None ≡ Some packet → TakesOut m slot (Ok tt) after → IsOffer packet s t → OwnWith guests after t
own_taken_out guests m after s t slot packet own stood took sent =
    subst (λ (n : Member). OwnWith guests n t) (sym (taken_out_left m after slot took))
    (own_offered guests m s t slot packet own (stands_within m.table slot packet stood) stood sent)

-- with a packet that was brought in, all are the worker's own
pub own_brought_in : (guests : ℕ → ℕ) (m after : Member) (s t : Side) (slot : ℕ) (packet : List Seg) → OwnWith guests m s →
    BringsIn m packet (Ok slot) after → IsTake packet s t → OwnWith guests after t
own_brought_in guests m after s t slot packet own brought come =
    let stands = brought_in_left m after slot packet brought in
    let empty = free_slot-is m.table slot stands.0 in
    subst (λ (n : Member). OwnWith guests n t) (sym stands.1)
    (own_taken guests m s t slot packet own come.limits empty.0 empty.1 come.hand come.holds come.headers)
