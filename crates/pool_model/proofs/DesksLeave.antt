-- An offer and a take keep each element in one place, and write one desk.
use Rattle.std.proofs.Common.{ℕ, ◌≡◌, ◌<◌, nat_le, inl, inr, List, length, length-set, get_or, Option, Some, None, refl, arith}
use Rattle.std.proofs.lemmas.Bool.{cases_Bool, leb-false}
use Rattle.commons.specs.declared.packet.Seg.{Seg}
use Rattle.commons.proofs.Bags.{bag-nil}
use Rattle.commons.proofs.PacketBags.{held_in-set, own_in-set, stands_within}
use Rattle.mbuf.specs.declared.acts.Act.TheVariants.{Offer, Take}
use Rattle.mbuf.specs.Members.{Member}
use Rattle.mbuf.specs.PacketRules.{free_slot}
use Rattle.mbuf.proofs.OwnLemmas.{free_slot-is}
use Rattle.pool_model.specs.Pool.{Shared}
use Rattle.pool_model.specs.PacketModel.{offer_in, offer_onto, take_from, take_into, take_off}
use Rattle.pool_model.proofs.Links.{Fewer, based_in-set, indirect_in-set}
use Rattle.pool_model.proofs.Leaves.{Leaves, Onto, Off, leaves_kept, nothing_keeps}

-- the packet leaves its slot as it comes onto an empty desk: holds and own elements only move
offer_onto-leaves : (others : ℕ → ℕ) (place : Option (List Seg)) (segs : List Seg) (slot desk : ℕ)
    (m : Member) (s : Shared) → get_or s.desks desk None ≡ place → desk < length s.desks →
    get_or m.table slot None ≡ Some segs →
    Leaves (Offer slot desk) others m s (offer_onto place segs slot desk m s)
offer_onto-leaves others (Some other) segs slot desk m s e here there = leaves_kept (nothing_keeps _ m s _ refl)
offer_onto-leaves others None segs slot desk m s e here there = record {
  limits = refl;
  number = refl;
  slots = length-set m.table slot None;
  desks = Onto slot desk segs refl e refl;
  changes = omega arith;
  placed = λ i few.
      let onto = rw e at (held_in-set s.desks desk (Some segs) i here) in
      let left = rw there at (held_in-set m.table slot None i (stands_within m.table slot segs there)) in
      omega (arith, onto, left, bag-nil i);
  counts = λ i few low within.
      let onto = rw e at (held_in-set s.desks desk (Some segs) i here) in
      let left = rw there at (held_in-set m.table slot None i (stands_within m.table slot segs there)) in
      omega (arith, onto, left, bag-nil i, within);
  fresh = λ i. omega (arith, bag-nil i);
  stands = λ i. omega (arith, bag-nil i);
  own = λ i.
      let onto = rw e at (own_in-set s.desks desk (Some segs) i here) in
      let left = rw there at (own_in-set m.table slot None i (stands_within m.table slot segs there)) in
      omega (arith, onto, left, bag-nil i);
  links = λ i few. Fewer
      (let onto = rw e at (based_in-set s.desks desk (Some segs) i here) in
      let left = rw there at (based_in-set m.table slot None i (stands_within m.table slot segs there)) in
      omega (arith, onto, left))
      (let onto = rw e at (indirect_in-set s.desks desk (Some segs) i here) in
      let left = rw there at (indirect_in-set m.table slot None i (stands_within m.table slot segs there)) in
      omega (arith, onto, left));
}

-- without a packet or a desk nothing changes, and else the packet comes onto the desk or stays
pub offer_in-leaves : (others : ℕ → ℕ) (content : Option (List Seg)) (slot desk : ℕ) (m : Member)
    (s : Shared) → get_or m.table slot None ≡ content →
    Leaves (Offer slot desk) others m s (offer_in content slot desk m s)
offer_in-leaves others None slot desk m s e = leaves_kept (nothing_keeps _ m s _ refl)
offer_in-leaves others (Some segs) slot desk m s e = elim (cases_Bool (nat_le (length s.desks) desk)) [
  | inl past ↦ rw past (leaves_kept (nothing_keeps _ m s _ refl))
  | inr here ↦
      rw here (offer_onto-leaves others (get_or s.desks desk None) segs slot desk m s refl
      (leb-false (length s.desks) desk here) e)
]

-- the packet leaves its desk as it comes into a free slot: holds and own elements only move
take_from-leaves : (others : ℕ → ℕ) (place : Option (List Seg)) (slot desk : ℕ) (m : Member)
    (s : Shared) → get_or s.desks desk None ≡ place → desk < length s.desks →
    slot < length m.table → get_or m.table slot None ≡ None →
    Leaves (Take desk) others m s (take_from place slot desk m s)
take_from-leaves others None slot desk m s e here within free = leaves_kept (nothing_keeps _ m s _ refl)
take_from-leaves others (Some segs) slot desk m s e here within free = record {
  limits = refl;
  number = refl;
  slots = length-set m.table slot (Some segs);
  desks = Off desk refl refl;
  changes = omega arith;
  placed = λ i few.
      let off = rw e at (held_in-set s.desks desk None i here) in
      let into = rw free at (held_in-set m.table slot (Some segs) i within) in
      omega (arith, off, into, bag-nil i);
  counts = λ i few low limited.
      let off = rw e at (held_in-set s.desks desk None i here) in
      let into = rw free at (held_in-set m.table slot (Some segs) i within) in
      omega (arith, off, into, bag-nil i, limited);
  fresh = λ i. omega (arith, bag-nil i);
  stands = λ i. omega (arith, bag-nil i);
  own = λ i.
      let off = rw e at (own_in-set s.desks desk None i here) in
      let into = rw free at (own_in-set m.table slot (Some segs) i within) in
      omega (arith, off, into, bag-nil i);
  links = λ i few. Fewer
      (let off = rw e at (based_in-set s.desks desk None i here) in
      let into = rw free at (based_in-set m.table slot (Some segs) i within) in
      omega (arith, off, into))
      (let off = rw e at (indirect_in-set s.desks desk None i here) in
      let into = rw free at (indirect_in-set m.table slot (Some segs) i within) in
      omega (arith, off, into));
}

-- with no free slot nothing changes, and else the slot that is filled was free
take_into-leaves : (others : ℕ → ℕ) (free : Option ℕ) (desk : ℕ) (m : Member) (s : Shared) →
    free_slot m.table ≡ free → desk < length s.desks →
    Leaves (Take desk) others m s (take_into free desk m s)
take_into-leaves others None desk m s e here = leaves_kept (nothing_keeps _ m s _ refl)
take_into-leaves others (Some slot) desk m s e here =
    let empty = free_slot-is m.table slot e in
    take_from-leaves others (get_or s.desks desk None) slot desk m s refl here empty.0 empty.1

-- without such a desk nothing changes, and else a packet comes off it or it was empty
pub take_off-leaves : (others : ℕ → ℕ) (desk : ℕ) (m : Member) (s : Shared) →
    Leaves (Take desk) others m s (take_off desk m s)
take_off-leaves others desk m s = elim (cases_Bool (nat_le (length s.desks) desk)) [
  | inl past ↦ rw past (leaves_kept (nothing_keeps _ m s _ refl))
  | inr here ↦
      rw here (take_into-leaves others (free_slot m.table) desk m s refl
      (leb-false (length s.desks) desk here))
]
