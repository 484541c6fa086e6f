-- What stands in slots and lies on desks is a packet, in each pool that acts made of a new one.
use Rattle.std.proofs.Common.{ℕ, zero, suc, ◌≡◌, ◌+◌, ◌-◌, ◌≤◌, ◌==◌, inl, inr, nat_le, nat_lt, Bool, true, false, if◌then◌else◌, List, [], ◌∷◌, ◌++◌, length, length-append, length-set, get_or, set, replicate, take, Option, Some, None, Result, Ok, Err, refl, sym, subst, ◌∙◌, arith}
use Rattle.std.specs.Prelude.{All}
use Rattle.std.proofs.lemmas.Bool.{cases_Bool, cases_lt, leb-true, ltb-false}
use Rattle.std.proofs.lemmas.List.{get_or_past}
use Rattle.std.proofs.lemmas.List.Elements.{All-append, All-cons, All-get_or, All-nil, All-set}
use Rattle.std.proofs.lemmas.Option.{none-some}
use Rattle.commons.specs.declared.limits.Limits.{Limits}
use Rattle.commons.specs.declared.packet.Seg.{Seg}
use Rattle.commons.specs.declared.refusal.Refusal.{Refusal}
use Rattle.commons.specs.declared.refusal.Refusal.TheVariants.{NoEntries, NoRoom, TooShort, RefSpent}
use Rattle.commons.specs.Bag.{bag, one}
use Rattle.commons.specs.Packets.{HasItsData, IsPacket, holds_of_packet, holds_in_slot, max_segs, no_seg}
use Rattle.mbuf.specs.declared.acts.Act.{Act}
use Rattle.mbuf.specs.declared.acts.Act.TheVariants.{Alloc, AllocBulk, Free, Append, Prepend, Adj, Trim, Chain, Attach, Detach, ClonePacket, Offer, Take, CountOf, PktLen, NbSegs, Flush}
use Rattle.mbuf.specs.Acts.{Reply}
use Rattle.mbuf.specs.Lengths.{appended, prepended, adjusted, trimmed, at_first, at_last, cut_behind, cut_in_front, grown_behind, grown_in_front, with_seg}
use Rattle.mbuf.specs.Members.{Member, slots}
use Rattle.mbuf.specs.PacketRules.{chain_in, fresh_seg, free_slot, free_slots, freed_nothing, resize_in, resize_to, stood}
use Rattle.mbuf.specs.Sharing.{attachable, attached, buffer_of, clonable, detachable, if_alone, if_direct, pair_in}
use Rattle.pool_model.specs.Pool.{Shared, Pool, member_at, new_members, new_pool, nobody}
use Rattle.pool_model.specs.CacheModel.{get}
use Rattle.pool_model.specs.PacketModel.{after_acts, alloc_bulk, alloc_in, chained_beside, beside, fill_slot, fill_slots, free_in, member_act, offer_in, offer_onto, perform, take_from, take_into, take_off, told_beside}
use Rattle.pool_model.specs.SharingModel.{Cloned, attach_to, clone_at, clone_segs, clone_to, detach_from, give_up, with_element}
use Rattle.pool_model.proofs.ActLeaves.{of_act}
use Rattle.pool_model.proofs.AfterActs.{after_acts-keeps}
use Rattle.pool_model.proofs.CacheBags.{flush-IsPut, get-IsGot}
use Rattle.pool_model.proofs.HeldBags.{end_holds-IsEnded}
use Rattle.pool_model.proofs.NewMembers.{newcomer}

-- a slot or a desk has a packet, or nothing
abbrev pub IsPlace : Option (List Seg) → Type 0
IsPlace None = Unit {0}
IsPlace (Some segs) = IsPacket segs

-- each place of a table has a packet, or nothing
abbrev pub ArePlaces : List (Option (List Seg)) → Type 0
ArePlaces table = All IsPlace table

-- what is read of a table, or past it, is a packet or nothing
place_at : (table : List (Option (List Seg))) (k : ℕ) → ArePlaces table → IsPlace (get_or table k None)
place_at table k a = elim (cases_lt k (length table)) [
  | inl l ↦ All-get_or IsPlace table k None l a
  | inr l ↦ rw (get_or_past table k None l) tt
]

-- after an act what stands at a worker's places and on the desks are packets, and its limits are
-- these
abbrev Stand : Limits → Reply × Member × Shared → Type 0
Stand l done = ArePlaces done.1.table × ArePlaces done.2.desks × (done.1.limits ≡ l)

-- one segment with its data is a packet
of_one : (seg : Seg) → HasItsData seg → IsPacket (seg ∷ [])
of_one seg h = record {
  some = omega arith;
  few = omega arith;
  each = All-cons HasItsData seg [] h (All-nil HasItsData);
}

fresh_packet : (l : Limits) (e : ℕ) → IsPacket (fresh_seg l e ∷ [])
fresh_packet l e = of_one (fresh_seg l e) (omega arith)

-- ---- making packets

-- an alloc that succeeds writes a fresh packet of one segment into its slot, and no desk
fill_slot-stand : (slot : ℕ) (m : Member) (s : Shared)
    (r : Result (List ℕ) Refusal × List ℕ × Shared) → r.2.desks ≡ s.desks → ArePlaces m.table →
    ArePlaces s.desks → Stand m.limits (fill_slot slot m r)
fill_slot-stand slot m s (Ok [], cache, t) e table desks = (table, rw e desks, refl)
fill_slot-stand slot m s (Ok (x ∷ xs), cache, t) e table desks = (
  All-set IsPlace m.table slot (Some (fresh_seg m.limits x ∷ [])) (fresh_packet m.limits x)
      table,
  rw e desks,
  refl,
)
fill_slot-stand slot m s (Err cause, cache, t) e table desks = (table, rw e desks, refl)

-- an alloc with no free slot writes nothing, and else its get writes no desk
alloc_in-stand : (slot : Option ℕ) (m : Member) (s : Shared) → ArePlaces m.table →
    ArePlaces s.desks → Stand m.limits (alloc_in slot m s)
alloc_in-stand None m s table desks = (table, desks, refl)
alloc_in-stand (Some slot) m s table desks =
    fill_slot-stand slot m s (get m.limits 1 m.cache s) (get-IsGot m.limits 1 m.cache s).desks table
    desks

-- each packet that a bulk stands in a slot is a fresh one of one segment
stood-places : (l : Limits) (es free : List ℕ) (table : List (Option (List Seg))) →
    ArePlaces table → ArePlaces (stood l es free table)
stood-places l [] free table a = a
stood-places l (e ∷ es) [] table a = a
stood-places l (e ∷ es) (slot ∷ free) table a =
    stood-places l es free (set table slot (Some (fresh_seg l e ∷ [])))
    (All-set IsPlace table slot (Some (fresh_seg l e ∷ [])) (fresh_packet l e) a)

-- a bulk that succeeds writes fresh packets into slots, and no desk
fill_slots-stand : (free : List ℕ) (m : Member) (s : Shared)
    (r : Result (List ℕ) Refusal × List ℕ × Shared) → r.2.desks ≡ s.desks → ArePlaces m.table →
    ArePlaces s.desks → Stand m.limits (fill_slots free m r)
fill_slots-stand free m s (Ok es, cache, t) e table desks =
    (stood-places m.limits es free m.table table, rw e desks, refl)
fill_slots-stand free m s (Err cause, cache, t) e table desks = (table, rw e desks, refl)

-- a bulk with too few free slots writes nothing, and else its get writes no desk
alloc_bulk-stand : (n : ℕ) (m : Member) (s : Shared) → ArePlaces m.table → ArePlaces s.desks →
    Stand m.limits (alloc_bulk n m s)
alloc_bulk-stand n m s table desks = elim (cases_Bool (nat_lt (length (free_slots m.table)) n)) [
  | inl e ↦ rw e (table, desks, refl)
  | inr e ↦
      rw e (fill_slots-stand (take n (free_slots m.table)) m s (get m.limits n m.cache s)
      (get-IsGot m.limits n m.cache s).desks table desks)
]

-- ---- freeing them

-- a free leaves its slot empty, and the ends of holds write no desk
free_in-stand : (content : Option (List Seg)) (elsewhere : ℕ → ℕ) (slot : ℕ) (m : Member)
    (s : Shared) → ArePlaces m.table → ArePlaces s.desks →
    Stand m.limits (free_in content elsewhere slot m s)
free_in-stand None elsewhere slot m s table desks = (table, desks, refl)
free_in-stand (Some segs) elsewhere slot m s table desks =
    let ends = end_holds-IsEnded m.limits elsewhere (holds_in_slot (Some segs)) (freed_nothing, m.cache, s) in
    (All-set IsPlace m.table slot None tt table, rw ends.desks desks, refl)

-- ---- changing lengths

-- what a change makes of a segment has its data within its buffer
abbrev Keeps : (Seg → Option Seg) → Type 0
Keeps change = (seg new : Seg) → HasItsData seg → change seg ≡ Some new → HasItsData new

-- where a test is met, what then is made, and no other
made_if : (b : Bool) (made new : Seg) → (if b then Some made else None) ≡ Some new → (b ≡ true) × (made ≡ new)
made_if true made new h = (refl, cc)
made_if false made new h = absurd (none-some new h)

-- data grows behind only within the tailroom, so it still ends within the buffer
grown_behind-keeps : (n : ℕ) → Keeps (grown_behind n)
grown_behind-keeps n seg new h e =
    let k = made_if (nat_le n (seg.buf_len - seg.data_off - seg.data_len)) _ new e in
    subst HasItsData k.1 (omega (arith, h, leb-true n (seg.buf_len - seg.data_off - seg.data_len) k.0))

-- data grows in front only within the headroom, so it ends where it did
grown_in_front-keeps : (n : ℕ) → Keeps (grown_in_front n)
grown_in_front-keeps n seg new h e =
    let k = made_if (nat_le n seg.data_off) _ new e in
    subst HasItsData k.1 (omega (arith, h, leb-true n seg.data_off k.0))

-- data that begins later ends where it did
cut_in_front-keeps : (n : ℕ) → Keeps (cut_in_front n)
cut_in_front-keeps n seg new h e =
    let k = made_if (nat_le n seg.data_len) _ new e in
    subst HasItsData k.1 (omega (arith, h, leb-true n seg.data_len k.0))

-- data that ends earlier still ends within the buffer
cut_behind-keeps : (n : ℕ) → Keeps (cut_behind n)
cut_behind-keeps n seg new h e =
    let k = made_if (nat_le n seg.data_len) _ new e in
    subst HasItsData k.1 (omega (arith, h, leb-true n seg.data_len k.0))

-- a packet of which one segment is changed to one with its data is a packet still
with_seg-packet : (index : ℕ) (segs new : List Seg) (o : Option Seg) → IsPacket segs →
    ((seg : Seg) → o ≡ Some seg → HasItsData seg) → with_seg index segs o ≡ Some new → IsPacket new
with_seg-packet index segs new None p h e = absurd (none-some new e)
with_seg-packet index segs new (Some seg) p h e =
    let long = length-set segs index seg in
    let made : set segs index seg ≡ new = cc in
    subst IsPacket made (record {
      some = omega (arith, p.some, long);
      few = omega (arith, p.few, long);
      each = All-set HasItsData segs index seg (h seg refl) p.each;
    })

-- a packet has a first segment, which the change leaves with its data within its buffer
at_first-packet : (change : Seg → Option Seg) → Keeps change → (segs new : List Seg) →
    IsPacket segs → at_first change segs ≡ Some new → IsPacket new
at_first-packet change keeps segs new p e =
    with_seg-packet 0 segs new (change (get_or segs 0 no_seg)) p (λ seg made.
    keeps (get_or segs 0 no_seg) seg (p.each 0 no_seg (omega (arith, p.some))) made) e

-- a packet has a last segment, which the change leaves with its data within its buffer
at_last-packet : (change : Seg → Option Seg) → Keeps change → (segs new : List Seg) →
    IsPacket segs → at_last change segs ≡ Some new → IsPacket new
at_last-packet change keeps segs new p e =
    with_seg-packet (length segs - 1) segs new (change (get_or segs (length segs - 1) no_seg)) p
    (λ seg made.
    keeps (get_or segs (length segs - 1) no_seg) seg
    (p.each (length segs - 1) no_seg (omega (arith, p.some))) made) e

-- the changed packet comes into the slot of the old one, or the old one stays
resize_to-stand : (o : Option (List Seg)) (cause : Refusal) (slot : ℕ) (m : Member) (s : Shared) →
    ((new : List Seg) → o ≡ Some new → IsPacket new) → ArePlaces m.table → ArePlaces s.desks →
    Stand m.limits (told_beside s (resize_to o cause slot m))
resize_to-stand None cause slot m s h table desks = (table, desks, refl)
resize_to-stand (Some new) cause slot m s h table desks =
    (All-set IsPlace m.table slot (Some new) (h new refl) table, desks, refl)

-- an empty slot stays empty, and a packet is changed to a packet
resize_in-stand : (o : Option (List Seg)) (change : List Seg → Option (List Seg)) (cause : Refusal)
    (slot : ℕ) (m : Member) (s : Shared) → IsPlace o →
    ((segs new : List Seg) → IsPacket segs → change segs ≡ Some new → IsPacket new) →
    ArePlaces m.table → ArePlaces s.desks → Stand m.limits (told_beside s (resize_in o change cause slot m))
resize_in-stand None change cause slot m s p h table desks = (table, desks, refl)
resize_in-stand (Some segs) change cause slot m s p h table desks =
    resize_to-stand (change segs) cause slot m s (λ new e. h segs new p e) table desks

-- ---- chains

-- the joined segments are at most 32, else the chain is refused; the tail's slot is empty then
chain_in-stand : (one two : Option (List Seg)) (head tail : ℕ) (m : Member) (s : Shared) →
    IsPlace one → IsPlace two → ArePlaces m.table → ArePlaces s.desks →
    Stand m.limits (chained_beside head s (chain_in one two head tail m))
chain_in-stand None two head tail m s p q table desks = (table, desks, refl)
chain_in-stand (Some first) None head tail m s p q table desks = (table, desks, refl)
chain_in-stand (Some first) (Some second) head tail m s p q table desks = elim (cases_Bool (head == tail)) [
  | inl same ↦ rw same (table, desks, refl)
  | inr apart ↦ elim (cases_Bool (nat_lt max_segs (length first + length second))) [
    | inl long ↦ rw (apart, long) (table, desks, refl)
    | inr few ↦
        let both : IsPacket (first ++ second) = record {
          some = omega (arith, p.some, length-append first second);
          few = omega (arith, ltb-false max_segs (length first + length second) few, length-append first second);
          each = All-append HasItsData first second p.each q.each;
        } in
        rw (apart, few) (
          All-set IsPlace (set m.table head (Some (first ++ second))) tail None tt
              (All-set IsPlace m.table head (Some (first ++ second)) both table),
          desks,
          refl,
        )
  ]
]

-- ---- sharing buffers

-- what is found to attach to has its data within its buffer
abbrev FoundSeg : Result (ℕ × Seg) Refusal → Type 0
FoundSeg (Ok found) = HasItsData found.1
FoundSeg (Err cause) = Unit {0}

-- a direct segment is attached to the target, whose data is within its buffer
if_direct-found : (base : Option ℕ) (e : ℕ) (target : Seg) → HasItsData target → FoundSeg (if_direct base e target)
if_direct-found None e target h = h
if_direct-found (Some base) e target h = tt

-- a packet of one segment is attached to the first segment of the other packet
if_alone-found : (segs targets : List Seg) → All HasItsData targets → FoundSeg (if_alone segs targets)
if_alone-found [] targets h = tt
if_alone-found (seg ∷ []) [] h = tt
if_alone-found (seg ∷ []) (target ∷ others) h = if_direct-found seg.base seg.elem target (h 0 no_seg (omega arith))
if_alone-found (seg ∷ (other ∷ segs)) targets h = tt

-- the packet whose buffer is used is another one, that stands in its slot
attachable-found : (one two : Option (List Seg)) (same : Bool) → IsPlace two → FoundSeg (attachable one two same)
attachable-found None two same p = tt
attachable-found (Some segs) None same p = tt
attachable-found (Some segs) (Some target) true p = tt
attachable-found (Some segs) (Some target) false p = if_alone-found segs target p.each

-- the attached packet has one segment, with the lengths of the segment whose buffer it uses
attach_to-stand : (found : Result (ℕ × Seg) Refusal) (held : ℕ → ℕ) (mi : ℕ) (m : Member)
    (s : Shared) → FoundSeg found → ArePlaces m.table → ArePlaces s.desks →
    Stand m.limits (beside s (attach_to found held mi m))
attach_to-stand (Err cause) held mi m s h table desks = (table, desks, refl)
attach_to-stand (Ok (e, seg)) held mi m s h table desks = elim (cases_Bool (held e == 1)) [
  | inl alone ↦ elim (cases_Bool (held (buffer_of seg) == m.limits.ref_limit)) [
    | inl spent ↦ rw (alone, spent) (table, desks, refl)
    | inr below ↦
        rw (alone, below) (
          All-set IsPlace m.table mi (Some (attached e seg ∷ []))
              (of_one (attached e seg) h) table,
          desks,
          refl,
        )
  ]
  | inr used ↦ rw used (table, desks, refl)
]

-- a detached packet is as a fresh one, and the end of the base's hold writes no desk
detach_from-stand : (found : Result (ℕ × ℕ) Refusal) (held : ℕ → ℕ) (slot : ℕ) (m : Member)
    (s : Shared) → ArePlaces m.table → ArePlaces s.desks →
    Stand m.limits (detach_from found held slot m s)
detach_from-stand (Err cause) held slot m s table desks = (table, desks, refl)
detach_from-stand (Ok (e, base)) held slot m s table desks =
    let ends = end_holds-IsEnded m.limits (λ j. held j - one base j) (base ∷ []) (freed_nothing, m.cache, s) in (
      All-set IsPlace m.table slot (Some (fresh_seg m.limits e ∷ [])) (fresh_packet m.limits e)
          table,
      rw ends.desks desks,
      refl,
    )

-- what was cloned is a packet, and the desks are these
abbrev IsCloned : List (Option (List Seg)) → Cloned → Type 0
IsCloned desks (Ok new, cache, t) = IsPacket new × (t.desks ≡ desks)
IsCloned desks (Err cause, cache, t) = t.desks ≡ desks

-- what holds of a clone with its element and of a refused one holds, as a get writes no desk
element-cloned : (desks : List (Option (List Seg))) (r : Result (List ℕ) Refusal × List ℕ × Shared)
    (met : ℕ → List ℕ → Shared → Cloned) (refused : Refusal → List ℕ → Shared → Cloned) →
    r.2.desks ≡ desks →
    ((e : ℕ) (left : List ℕ) (t : Shared) → t.desks ≡ desks → IsCloned desks (met e left t)) →
    ((cause : Refusal) (left : List ℕ) (t : Shared) → t.desks ≡ desks →
    IsCloned desks (refused cause left t)) →
    IsCloned desks (with_element r met refused)
element-cloned desks (Ok [], left, t) met refused same a b = b NoEntries left t same
element-cloned desks (Ok (e ∷ es), left, t) met refused same a b = a e left t same
element-cloned desks (Err cause, left, t) met refused same a b = b cause left t same

-- each clone has the lengths of its segment, and there are as many: 1 to 32
clone_segs-cloned : (l : Limits) (held : ℕ → ℕ) (desks : List (Option (List Seg)))
    (segs new : List Seg) (cache : List ℕ) (s : Shared) → s.desks ≡ desks → All HasItsData segs →
    All HasItsData new →
    1 ≤ length new + length segs → length new + length segs ≤ max_segs →
    IsCloned desks (clone_segs l held segs new cache s)
clone_segs-cloned l held desks [] new cache s same d n some few =
    (record { some = omega (arith, some); few = omega (arith, few); each = n }, same)
clone_segs-cloned l held desks (seg ∷ segs) new cache s same d n some few =
    let b = buffer_of seg in
    element-cloned desks (get l 1 cache s)
    (λ e left t.
    if held b + bag (holds_of_packet new) b == l.ref_limit
    then give_up l held (holds_of_packet new ++ e ∷ []) RefSpent left t
    else clone_segs l held segs (new ++ attached e seg ∷ []) left t)
    (λ cause left t. give_up l held (holds_of_packet new) cause left t) ((get-IsGot l 1 cache s).desks ∙ same)
    (λ e left t there. elim (cases_Bool (held b + bag (holds_of_packet new) b == l.ref_limit)) [
      | inl full ↦
          rw full ((end_holds-IsEnded l held (holds_of_packet new ++ e ∷ [])
          (freed_nothing, left, t)).desks ∙ there)
      | inr below ↦
          let long = length-append new (attached e seg ∷ []) in
          let first : HasItsData seg = d 0 no_seg (omega arith) in
          rw below (clone_segs-cloned l held desks segs (new ++ attached e seg ∷ []) left t there
          (λ k x h. d (suc k) x (omega (arith, h)))
          (All-append HasItsData new (attached e seg ∷ []) n
          (All-cons HasItsData (attached e seg) [] first (All-nil HasItsData)))
          (omega (arith, some, long)) (omega (arith, few, long)))
    ])
    (λ cause left t there. (end_holds-IsEnded l held (holds_of_packet new) (freed_nothing, left, t)).desks ∙ there)

-- the clone comes into its slot, or none does; the desks are those that the gets left
clone_to-stand : (slot : ℕ) (m : Member) (r : Cloned) (desks : List (Option (List Seg))) →
    IsCloned desks r → ArePlaces m.table → ArePlaces desks → Stand m.limits (clone_to slot m r)
clone_to-stand slot m (Ok new, cache, t) desks c table d =
    (All-set IsPlace m.table slot (Some new) c.0 table, rw c.1 d, refl)
clone_to-stand slot m (Err cause, cache, t) desks c table d = (table, rw c d, refl)

-- what is found to clone is a packet
abbrev FoundPacket : Result (List Seg × ℕ) Refusal → Type 0
FoundPacket (Ok found) = IsPacket found.0
FoundPacket (Err cause) = Unit {0}

-- what is cloned is the packet that stands in the slot
clonable-found : (source : Option (List Seg)) (free : Option ℕ) → IsPlace source → FoundPacket (clonable source free)
clonable-found None free p = tt
clonable-found (Some segs) None p = tt
clonable-found (Some segs) (Some slot) p = p

-- the source is a packet, so its clones are as many, each with its data within its buffer
clone_at-stand : (found : Result (List Seg × ℕ) Refusal) (held : ℕ → ℕ) (m : Member) (s : Shared) →
    FoundPacket found → ArePlaces m.table → ArePlaces s.desks →
    Stand m.limits (clone_at found held m s)
clone_at-stand (Err cause) held m s h table desks = (table, desks, refl)
clone_at-stand (Ok (segs, slot)) held m s h table desks =
    clone_to-stand slot m (clone_segs m.limits held segs [] m.cache s) s.desks
    (clone_segs-cloned m.limits held s.desks segs [] m.cache s refl h.each (All-nil HasItsData)
    (omega (arith, h.some)) (omega (arith, h.few))) table desks

-- ---- desks

-- the packet that leaves its slot is the one that lies on the desk
offer_onto-stand : (place : Option (List Seg)) (segs : List Seg) (slot desk : ℕ) (m : Member)
    (s : Shared) → IsPacket segs → ArePlaces m.table → ArePlaces s.desks →
    Stand m.limits (offer_onto place segs slot desk m s)
offer_onto-stand (Some other) segs slot desk m s p table desks = (table, desks, refl)
offer_onto-stand None segs slot desk m s p table desks = (
  All-set IsPlace m.table slot None tt table,
  All-set IsPlace s.desks desk (Some segs) p desks,
  refl,
)

-- an offer of nothing, or without such a desk, writes nothing
offer_in-stand : (content : Option (List Seg)) (slot desk : ℕ) (m : Member) (s : Shared) →
    IsPlace content → ArePlaces m.table → ArePlaces s.desks →
    Stand m.limits (offer_in content slot desk m s)
offer_in-stand None slot desk m s p table desks = (table, desks, refl)
offer_in-stand (Some segs) slot desk m s p table desks = elim (cases_Bool (nat_le (length s.desks) desk)) [
  | inl past ↦ rw past (table, desks, refl)
  | inr here ↦ rw here (offer_onto-stand (get_or s.desks desk None) segs slot desk m s p table desks)
]

-- the packet that leaves the desk is the one that stands in the slot
take_from-stand : (content : Option (List Seg)) (slot desk : ℕ) (m : Member) (s : Shared) →
    IsPlace content → ArePlaces m.table → ArePlaces s.desks →
    Stand m.limits (take_from content slot desk m s)
take_from-stand None slot desk m s p table desks = (table, desks, refl)
take_from-stand (Some segs) slot desk m s p table desks = (
  All-set IsPlace m.table slot (Some segs) p table,
  All-set IsPlace s.desks desk None tt desks,
  refl,
)

-- without a free slot nothing is taken, and what lies on the desk is a packet
take_into-stand : (free : Option ℕ) (desk : ℕ) (m : Member) (s : Shared) → ArePlaces m.table →
    ArePlaces s.desks → Stand m.limits (take_into free desk m s)
take_into-stand None desk m s table desks = (table, desks, refl)
take_into-stand (Some slot) desk m s table desks =
    take_from-stand (get_or s.desks desk None) slot desk m s (place_at s.desks desk desks) table
    desks

-- without such a desk nothing is taken
take_off-stand : (desk : ℕ) (m : Member) (s : Shared) → ArePlaces m.table → ArePlaces s.desks →
    Stand m.limits (take_off desk m s)
take_off-stand desk m s table desks = elim (cases_Bool (nat_le (length s.desks) desk)) [
  | inl past ↦ rw past (table, desks, refl)
  | inr here ↦ rw here (take_into-stand (free_slot m.table) desk m s table desks)
]

-- ---- each act

-- what each act writes into a slot or onto a desk is a packet, or nothing
act_stand : (act : Act) (held : ℕ → ℕ) (elsewhere : ℕ → ℕ → ℕ) (m : Member) (s : Shared) →
    ArePlaces m.table → ArePlaces s.desks → Stand m.limits (member_act act held elsewhere m s)
act_stand Alloc held elsewhere m s table desks = alloc_in-stand (free_slot m.table) m s table desks
act_stand (AllocBulk n) held elsewhere m s table desks = alloc_bulk-stand n m s table desks
act_stand (Free slot) held elsewhere m s table desks =
    free_in-stand (get_or m.table slot None) (elsewhere slot) slot m s table desks
act_stand (Append slot n) held elsewhere m s table desks =
    resize_in-stand (get_or m.table slot None) (appended n) NoRoom slot m s
    (place_at m.table slot table) (at_last-packet (grown_behind n) (grown_behind-keeps n)) table
    desks
act_stand (Prepend slot n) held elsewhere m s table desks =
    resize_in-stand (get_or m.table slot None) (prepended n) NoRoom slot m s
    (place_at m.table slot table) (at_first-packet (grown_in_front n) (grown_in_front-keeps n))
    table desks
act_stand (Adj slot n) held elsewhere m s table desks =
    resize_in-stand (get_or m.table slot None) (adjusted n) TooShort slot m s
    (place_at m.table slot table) (at_first-packet (cut_in_front n) (cut_in_front-keeps n)) table
    desks
act_stand (Trim slot n) held elsewhere m s table desks =
    resize_in-stand (get_or m.table slot None) (trimmed n) TooShort slot m s
    (place_at m.table slot table) (at_last-packet (cut_behind n) (cut_behind-keeps n)) table desks
act_stand (Chain head tail) held elsewhere m s table desks =
    chain_in-stand (get_or m.table head None) (get_or m.table tail None) head tail m s
    (place_at m.table head table) (place_at m.table tail table) table desks
act_stand (Attach mi target) held elsewhere m s table desks =
    attach_to-stand (pair_in m mi target) held mi m s (attachable-found (get_or m.table mi None)
    (get_or m.table target None) (mi == target) (place_at m.table target table)) table desks
act_stand (Detach slot) held elsewhere m s table desks =
    detach_from-stand (detachable (get_or m.table slot None)) held slot m s table desks
act_stand (ClonePacket source) held elsewhere m s table desks =
    clone_at-stand (clonable (get_or m.table source None) (free_slot m.table)) held m s
    (clonable-found (get_or m.table source None) (free_slot m.table)
    (place_at m.table source table)) table desks
act_stand (Offer slot desk) held elsewhere m s table desks =
    offer_in-stand (get_or m.table slot None) slot desk m s (place_at m.table slot table) table
    desks
act_stand (Take desk) held elsewhere m s table desks = take_off-stand desk m s table desks
act_stand (CountOf slot) held elsewhere m s table desks = (table, desks, refl)
act_stand (PktLen slot) held elsewhere m s table desks = (table, desks, refl)
act_stand (NbSegs slot) held elsewhere m s table desks = (table, desks, refl)
act_stand Flush held elsewhere m s table desks = (table, rw (flush-IsPut m.cache s).desks desks, refl)

-- what stands in all workers' slots and lies on desks is a packet, and each worker has the pool's
-- limits
pub record HasPackets (pool : Pool) : Type 0 where
  pub limits : All (λ m. m.limits ≡ pool.limits) pool.members
  pub in_slots : All (λ m. ArePlaces m.table) pool.members
  pub on_desks : ArePlaces pool.shared.desks

-- the worker who acts is left packets, the others keep theirs, and no limit changes
perform-packets : (pool : Pool) (w : ℕ) (act : Act) → HasPackets pool → HasPackets (perform pool w act).1
perform-packets pool w act b =
    of_act (λ r. HasPackets r.1) pool w act b (λ n done number within is left.
    let table : ArePlaces (member_at pool n).table =
    All-get_or (λ (m : Member). ArePlaces m.table) pool.members n (nobody pool.limits) within
    b.in_slots in
    let kept : Stand (member_at pool n).limits done =
    subst (Stand (member_at pool n).limits) (sym is)
    (act_stand act _ _ (member_at pool n) pool.shared table b.on_desks) in
    record {
      limits =
          All-set (λ (m : Member). m.limits ≡ pool.limits) pool.members n done.1
          (kept.2 ∙ All-get_or (λ (m : Member). m.limits ≡ pool.limits) pool.members n
          (nobody pool.limits) within b.limits) b.limits;
      in_slots = All-set (λ (m : Member). ArePlaces m.table) pool.members n done.1 kept.0 b.in_slots;
      on_desks = kept.1;
    })

-- nothing stands in an empty table
none_there : (n : ℕ) → ArePlaces (replicate n None)
none_there zero = All-nil IsPlace
none_there (suc n) = All-cons IsPlace None (replicate n None) tt (none_there n)

-- a newcomer's table is empty
new_members-packets : (l : Limits) (number n : ℕ) → All (λ m. ArePlaces m.table) (new_members l number n)
new_members-packets l number zero = All-nil (λ (m : Member). ArePlaces m.table)
new_members-packets l number (suc n) =
    All-cons (λ (m : Member). ArePlaces m.table) (newcomer l number) (new_members l (number + 1) n)
    (none_there slots) (new_members-packets l (number + 1) n)

-- a newcomer has the pool's limits
new_members-limits : (l : Limits) (number n : ℕ) → All (λ m. m.limits ≡ l) (new_members l number n)
new_members-limits l number zero = All-nil (λ (m : Member). m.limits ≡ l)
new_members-limits l number (suc n) =
    All-cons (λ (m : Member). m.limits ≡ l) (newcomer l number) (new_members l (number + 1) n) refl
    (new_members-limits l (number + 1) n)

-- after any acts of its workers a new pool has packets alone
pub acts-packets : (l : Limits) (acts : List (ℕ × Act)) → HasPackets (after_acts acts (new_pool l))
acts-packets l acts =
    after_acts-keeps HasPackets perform-packets acts (new_pool l) (record {
      limits = new_members-limits l 1 l.workers;
      in_slots = new_members-packets l 1 l.workers;
      on_desks = none_there l.desks;
    })
