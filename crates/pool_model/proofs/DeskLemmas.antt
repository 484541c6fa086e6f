-- What an offer that succeeds leaves, and what the next take gives.
use Rattle.std.proofs.Common.{ℕ, ◌≡◌, ◌<◌, nat_le, inl, inr, List, length, get_or, set, get_or-set_same, Option, Some, None, refl, sym, ◌∙◌, ap}
use Rattle.std.proofs.lemmas.Bool.{cases_Bool, leb-false, lt-leb}
use Rattle.std.proofs.lemmas.List.{set-set, set-get_or}
use Rattle.commons.specs.Packets.{pkt_len}
use Rattle.commons.specs.declared.packet.Seg.{Seg}
use Rattle.commons.specs.declared.refusal.Refusal.TheVariants.{DeskTaken, PacketsFull}
use Rattle.commons.proofs.PacketBags.{stands_within}
use Rattle.mbuf.specs.Acts.{Reply}
use Rattle.mbuf.specs.declared.acts.Answer.TheVariants.{Offered, Refused, Taken}
use Rattle.mbuf.specs.Members.{Member}
use Rattle.mbuf.specs.PacketRules.{free_slot}
use Rattle.pool_model.specs.Pool.{Shared}
use Rattle.pool_model.specs.PacketModel.{offer, offer_in, offer_onto, take_off, without_packet}

-- The packet of a slot went onto an empty desk of the pool, and its slot was freed.
pub record WentOnto (packet : List Seg) (slot desk : ℕ) (m after : Member) (s t : Shared) : Type 0 where
  pub within : desk < length s.desks
  pub empty : get_or s.desks desk None ≡ None
  pub freed : after ≡ without_packet slot m
  pub there : t ≡ record s { desks = set s.desks desk (Some packet) }

-- an offer on a taken desk is refused, so one that succeeds found the desk empty and left the
-- packet
offer_onto-met : (place : Option (List Seg)) (packet : List Seg) (slot desk : ℕ) (m after : Member)
    (s t : Shared) → get_or s.desks desk None ≡ place → desk < length s.desks →
    offer_onto place packet slot desk m s ≡ (Offered, after, t) → WentOnto packet slot desk m after s t
offer_onto-met (Some other) packet slot desk m after s t e here met =
    absurd (let reply = ap (λ (r : Reply × Member × Shared). r.0) met in cc)
offer_onto-met None packet slot desk m after s t e here met = record {
  within = here;
  empty = e;
  freed = sym (ap (λ (r : Reply × Member × Shared). r.1) met);
  there = sym (ap (λ (r : Reply × Member × Shared). r.2) met);
}

-- an offer that succeeds found a packet in the slot and a desk of this number
offer_in-met : (content : Option (List Seg)) (slot desk : ℕ) (m after : Member) (s t : Shared) →
    offer_in content slot desk m s ≡ (Offered, after, t) →
    (packet : List Seg) × (content ≡ Some packet) × WentOnto packet slot desk m after s t
offer_in-met None slot desk m after s t met = absurd (let reply = ap (λ (r : Reply × Member × Shared). r.0) met in cc)
offer_in-met (Some packet) slot desk m after s t met = elim (cases_Bool (nat_le (length s.desks) desk)) [
  | inl past ↦ absurd (let reply = ap (λ (r : Reply × Member × Shared). r.0) (rw past at met) in cc)
  | inr here ↦ (
    packet,
    refl,
    offer_onto-met (get_or s.desks desk None) packet slot desk m after s t refl
        (leb-false (length s.desks) desk here) (rw here at met),
  )
]

-- an offer on an empty desk of the pool succeeds
pub offer-met : (slot desk : ℕ) (packet : List Seg) (m : Member) (s : Shared) →
    get_or m.table slot None ≡ Some packet → desk < length s.desks →
    get_or s.desks desk None ≡ None → (offer slot desk m s).0 ≡ Offered
offer-met slot desk packet m s there here empty = rw (there, lt-leb (length s.desks) desk here, empty) refl

-- a take off a desk of the pool that has this packet
pub take_off-met : (desk free : ℕ) (packet : List Seg) (taker : Member) (t : Shared) →
    get_or t.desks desk None ≡ Some packet → free_slot taker.table ≡ Some free →
    take_off desk taker t ≡ (
      Taken free (length packet) (pkt_len packet),
      record taker { table = set taker.table free (Some packet) },
      record t { desks = set t.desks desk None },
    )
take_off-met desk free packet taker t there e =
    rw (lt-leb (length t.desks) desk (stands_within t.desks desk packet there), e, there) refl

-- an offer on a desk that has a packet is refused, and changes nothing
pub offer-taken : (slot desk : ℕ) (packet other : List Seg) (m : Member) (s : Shared) →
    get_or s.desks desk None ≡ Some packet → get_or m.table slot None ≡ Some other →
    offer slot desk m s ≡ (Refused DeskTaken, m, s)
offer-taken slot desk packet other m s there e =
    rw (e, lt-leb (length s.desks) desk (stands_within s.desks desk packet there), there) refl

-- a take by a worker with no free slot is refused, and changes nothing
pub take_off-full : (desk : ℕ) (taker : Member) (t : Shared) → desk < length t.desks →
    free_slot taker.table ≡ None → take_off desk taker t ≡ (Refused PacketsFull, taker, t)
take_off-full desk taker t here e = rw (lt-leb (length t.desks) desk here, e) refl

-- once a packet went onto a desk, the desk has it
desk_has : (packet : List Seg) (slot desk : ℕ) (m after : Member) (s t : Shared) →
    WentOnto packet slot desk m after s t → get_or t.desks desk None ≡ Some packet
desk_has packet slot desk m after s t went = rw went.there (get_or-set_same s.desks desk (Some packet) None went.within)

-- the slot that the packet went from is free then
slot_freed : (packet : List Seg) (slot desk : ℕ) (m after : Member) (s t : Shared) →
    WentOnto packet slot desk m after s t → slot < length m.table →
    get_or after.table slot None ≡ None
slot_freed packet slot desk m after s t went within = rw went.freed (get_or-set_same m.table slot None None within)

-- once the desk is emptied again, all is as before
desk_emptied : (packet : List Seg) (slot desk : ℕ) (m after : Member) (s t : Shared) →
    WentOnto packet slot desk m after s t → record t { desks = set t.desks desk None } ≡ s
desk_emptied packet slot desk m after s t went =
    let same : set s.desks desk None ≡ s.desks =
    ap (λ (place : Option (List Seg)). set s.desks desk place) (sym went.empty)
    ∙ set-get_or s.desks desk None in
    rw (went.there, set-set s.desks desk (Some packet) None, same) refl

-- an offer that succeeds leaves its slot free, and the packet that stood there on the desk
pub left_on_desk : (slot desk : ℕ) (m after : Member) (s t : Shared) → offer slot desk m s ≡ (Offered, after, t) →
    (packet : List Seg) × (get_or m.table slot None ≡ Some packet)
    × (get_or after.table slot None ≡ None) × (get_or t.desks desk None ≡ Some packet)
left_on_desk slot desk m after s t met =
    let did = offer_in-met (get_or m.table slot None) slot desk m after s t met in (
      did.0,
      did.1,
      slot_freed did.0 slot desk m after s t did.2 (stands_within m.table slot did.0 did.1),
      desk_has did.0 slot desk m after s t did.2,
    )

-- where a take empties the desk again, all is as before the offer
pub emptied_again : (slot desk : ℕ) (m after : Member) (s t : Shared) →
    offer slot desk m s ≡ (Offered, after, t) → record t { desks = set t.desks desk None } ≡ s
emptied_again slot desk m after s t met =
    let did = offer_in-met (get_or m.table slot None) slot desk m after s t met in
    desk_emptied did.0 slot desk m after s t did.2
