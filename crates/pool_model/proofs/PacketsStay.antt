-- Each act leaves packets where packets were: of 1 to 32 segments, each with its data within a
-- buffer of the pool.
use Rattle.std.proofs.Common.{ℕ, suc, ◌≡◌, ◌+◌, ◌-◌, ◌≤◌, ◌==◌, inl, inr, nat_lt, nat_le, Bool, true, false, cond, All, List, [], ◌∷◌, ◌++◌, length, length-append, length-set, get_or, get_or-set_other, get_or-set_same, set, take, Option, Some, None, Result, Ok, Err, refl, subst, arith}
use Rattle.std.specs.Prelude.{if◌then◌else◌}
use Rattle.std.proofs.lemmas.Bool.{cases_Bool, cases_lt, leb-true, ltb-false}
use Rattle.std.proofs.lemmas.List.{get_or_past}
use Rattle.std.proofs.lemmas.List.Elements.{All-nil, All-cons, All-append, All-set}
use Rattle.commons.proofs.Places.{apart_or_same}
use Rattle.commons.proofs.Sames.{some-is}
use Rattle.commons.specs.Bag.{bag, one}
use Rattle.commons.specs.declared.limits.Limits.{Limits}
use Rattle.commons.specs.declared.packet.Seg.{Seg}
use Rattle.commons.specs.declared.refusal.Refusal.{Refusal}
use Rattle.commons.specs.declared.refusal.Refusal.TheVariants.{NoRoom, RefSpent, TooShort}
use Rattle.commons.specs.Packets.{HasItsData, holds_of_packet, max_segs, no_seg}
use Rattle.mbuf.specs.Acts.{Reply}
use Rattle.mbuf.specs.declared.acts.Act.{Act}
use Rattle.mbuf.specs.declared.acts.Act.TheVariants.{Alloc, AllocBulk, Free, Append, Prepend, Adj, Trim, Chain, Attach, Detach, ClonePacket, Offer, Take, CountOf, PktLen, NbSegs, Flush}
use Rattle.mbuf.specs.Lengths.{with_seg, appended, prepended, adjusted, trimmed, grown_behind, grown_in_front, cut_in_front, cut_behind}
use Rattle.mbuf.specs.Members.{Member}
use Rattle.mbuf.specs.PacketRules.{chain_in, free_slot, free_slots, freed_nothing, fresh_seg, resize_in, resize_to, stood}
use Rattle.mbuf.specs.Sharing.{attached, buffer_of, clonable, detachable, pair_in}
use Rattle.mbuf.proofs.SharingLemmas.{found_pair}
use Rattle.pool_model.specs.Pool.{Shared}
use Rattle.pool_model.specs.CacheModel.{get}
use Rattle.pool_model.specs.PacketModel.{alloc_bulk, alloc_in, beside, chained_beside, fill_slot, fill_slots, free_in, member_act, offer_in, offer_onto, take_from, take_into, take_off, told_beside}
use Rattle.pool_model.specs.SharingModel.{Cloned, attach_to, clone_at, clone_segs, clone_to, detach_from, give_up}
use Rattle.pool_model.specs.Sound.{IsPacketOf}
use Rattle.pool_model.proofs.CacheBags.{IsGot, flush-IsPut, get-IsGot}
use Rattle.pool_model.proofs.HeldBags.{end_holds-IsEnded}
use Rattle.pool_model.proofs.LinkSteps.{element_of}
use Rattle.pool_model.proofs.Leaves.{Leaves}
use Rattle.pool_model.proofs.PoolActs.{clone_desks}
use Rattle.pool_model.proofs.SharedKeep.{clonable_there}

-- a segment with its data within a buffer of this length
abbrev IsSegOf : ℕ → Seg → Type 0
IsSegOf buf seg = HasItsData seg × (seg.buf_len ≡ buf)

abbrev AreSegsOf : ℕ → List Seg → Type 0
AreSegsOf buf segs = (1 ≤ length segs) × (length segs ≤ max_segs) × All (IsSegOf buf) segs

segs_of : (buf : ℕ) (segs : List Seg) → IsPacketOf buf segs → AreSegsOf buf segs
segs_of buf segs is = (is.packet.some, is.packet.few, λ k d within. (is.packet.each k d within, is.buffers k d within))

-- what is told of the segments together is what makes them a packet
of_segs : (buf : ℕ) (segs : List Seg) → AreSegsOf buf segs → IsPacketOf buf segs
of_segs buf segs are = record {
  packet = record { some = are.0; few = are.1; each = λ k d within. (are.2 k d within).0 };
  buffers = λ k d within. (are.2 k d within).1;
}

-- what stands in a slot is a packet
abbrev pub IsSlotOf : ℕ → Option (List Seg) → Type 0
IsSlotOf buf None = Unit {0}
IsSlotOf buf (Some segs) = IsPacketOf buf segs

-- what stands in each slot of a table is a packet
abbrev pub AreSlotsOf : ℕ → List (Option (List Seg)) → Type 0
AreSlotsOf buf table = (slot : ℕ) → IsSlotOf buf (get_or table slot None)

-- a table of which one slot has another packet, or none, has packets alone
set-packets : (buf : ℕ) (table : List (Option (List Seg))) (slot : ℕ) (new : Option (List Seg)) → IsSlotOf buf new →
    AreSlotsOf buf table → AreSlotsOf buf (set table slot new)
set-packets buf table slot new is all k = elim (apart_or_same slot k) [
  | inl same ↦ elim (cases_lt slot (length table)) [
    | inl within ↦ rw (same, get_or-set_same table slot new None within) is
    | inr past ↦
        rw (
          same,
          get_or_past (set table slot new) slot None
              (omega (arith, length-set table slot new, past)),
        ) tt
  ]
  | inr other ↦ rw (get_or-set_other table slot k new None other) (all k)
]

-- All packets of a worker and all on desks are packets.
abbrev pub ArePackets : ℕ → Member → Shared → Type 0
ArePackets buf m s = AreSlotsOf buf m.table × AreSlotsOf buf s.desks

abbrev Stay : Member → Shared → Reply × Member × Shared → Type 0
Stay m s done = ArePackets m.limits.buf m s → ArePackets m.limits.buf done.1 done.2

-- where the desks are as before, what lies on them are packets as before
same_desks : (buf : ℕ) (before after : List (Option (List Seg))) → after ≡ before →
    AreSlotsOf buf before → AreSlotsOf buf after
same_desks buf before after same all = rw same all

-- ---- fresh packets

-- one segment with its data within a buffer of the pool is a packet
one-packet : (buf : ℕ) (seg : Seg) → IsSegOf buf seg → IsPacketOf buf (seg ∷ [])
one-packet buf seg is =
    of_segs buf (seg ∷ [])
    (omega arith, omega arith, All-cons (IsSegOf buf) seg [] is (All-nil (IsSegOf buf)))

fresh-packet : (l : Limits) (e : ℕ) → IsPacketOf l.buf (fresh_seg l e ∷ [])
fresh-packet l e = one-packet l.buf (fresh_seg l e) (omega arith, refl)

-- the one segment of a fresh packet has a buffer of the pool's length, and a get writes no desk
fill_slot-stay : (slot : ℕ) (m : Member) (s : Shared)
    (r : Result (List ℕ) Refusal × List ℕ × Shared) → IsGot 1 m.cache s r →
    Stay m s (fill_slot slot m r)
fill_slot-stay slot m s (Ok [], cache, t) got all = (all.0, same_desks m.limits.buf s.desks t.desks got.desks all.1)
fill_slot-stay slot m s (Ok (e ∷ es), cache, t) got all = (
  set-packets m.limits.buf m.table slot _ (fresh-packet m.limits e) all.0,
  same_desks m.limits.buf s.desks t.desks got.desks all.1,
)
fill_slot-stay slot m s (Err cause, cache, t) got all = (all.0, same_desks m.limits.buf s.desks t.desks got.desks all.1)

-- an alloc with no free slot writes nothing
alloc_in-stay : (slot : Option ℕ) (m : Member) (s : Shared) → Stay m s (alloc_in slot m s)
alloc_in-stay None m s all = all
alloc_in-stay (Some slot) m s all =
    fill_slot-stay slot m s (get m.limits 1 m.cache s) (get-IsGot m.limits 1 m.cache s) all

-- each packet that a bulk stands in a slot has a buffer of the pool's length
stood-packets : (l : Limits) (es slots : List ℕ) (table : List (Option (List Seg))) → AreSlotsOf l.buf table →
    AreSlotsOf l.buf (stood l es slots table)
stood-packets l [] slots table all = all
stood-packets l (e ∷ es) [] table all = all
stood-packets l (e ∷ es) (slot ∷ slots) table all =
    let new = Some (fresh_seg l e ∷ []) in
    stood-packets l es slots (set table slot new) (set-packets l.buf table slot new (fresh-packet l e) all)

-- a bulk that succeeds writes fresh packets into slots, and its get writes no desk
fill_slots-stay : (n : ℕ) (slots : List ℕ) (m : Member) (s : Shared) (r : Result (List ℕ) Refusal × List ℕ × Shared) →
    IsGot n m.cache s r → Stay m s (fill_slots slots m r)
fill_slots-stay n slots m s (Ok es, cache, t) got all =
    (stood-packets m.limits es slots m.table all.0, same_desks m.limits.buf s.desks t.desks got.desks all.1)
fill_slots-stay n slots m s (Err cause, cache, t) got all =
    (all.0, same_desks m.limits.buf s.desks t.desks got.desks all.1)

-- a bulk with too few free slots writes nothing
alloc_bulk-stay : (n : ℕ) (m : Member) (s : Shared) → Stay m s (alloc_bulk n m s)
alloc_bulk-stay n m s all = elim (cases_Bool (nat_lt (length (free_slots m.table)) n)) [
  | inl e ↦ rw e all
  | inr e ↦
      rw e (fill_slots-stay n (take n (free_slots m.table)) m s (get m.limits n m.cache s)
      (get-IsGot m.limits n m.cache s) all)
]

-- a free leaves its slot empty, and the ends of holds write no desk
free_in-stay : (content : Option (List Seg)) (elsewhere : ℕ → ℕ) (slot : ℕ) (m : Member) (s : Shared) →
    Stay m s (free_in content elsewhere slot m s)
free_in-stay None elsewhere slot m s all = all
free_in-stay (Some segs) elsewhere slot m s all = (
  set-packets m.limits.buf m.table slot None tt all.0,
  same_desks m.limits.buf s.desks _
      (end_holds-IsEnded m.limits elsewhere (holds_of_packet segs) (freed_nothing, m.cache, s)).desks all.1,
)

-- ---- changes of lengths

-- a change of a segment leaves one whose data is within its buffer
abbrev KeepsSegs : (Seg → Option Seg) → Type 0
KeepsSegs change = (buf : ℕ) (seg new : Seg) → IsSegOf buf seg → change seg ≡ Some new → IsSegOf buf new

-- what is made only where there is room has its data within its buffer
made_where : (room : Bool) (buf : ℕ) (made new : Seg) → (room ≡ true → IsSegOf buf made) →
    cond room (Some made) None ≡ Some new →
    IsSegOf buf new
made_where true buf made new is e = subst (IsSegOf buf) (some-is made new e) (is refl)
made_where false buf made new is e = absurd cc

-- data grows behind only within the tailroom, and the buffer's length stays
grown_behind-keeps : (n : ℕ) → KeepsSegs (grown_behind n)
grown_behind-keeps n buf seg new is e =
    made_where (nat_le n (seg.buf_len - seg.data_off - seg.data_len)) buf _ new
    (λ room. (omega (arith, leb-true n _ room, is.0), is.1)) e

-- data grows in front only within the headroom, and the buffer's length stays
grown_in_front-keeps : (n : ℕ) → KeepsSegs (grown_in_front n)
grown_in_front-keeps n buf seg new is e =
    made_where (nat_le n seg.data_off) buf _ new (λ room. (omega (arith, leb-true n _ room, is.0), is.1)) e

-- data that begins later ends where it did, and the buffer's length stays
cut_in_front-keeps : (n : ℕ) → KeepsSegs (cut_in_front n)
cut_in_front-keeps n buf seg new is e =
    made_where (nat_le n seg.data_len) buf _ new (λ room. (omega (arith, leb-true n _ room, is.0), is.1)) e

-- data that ends earlier still ends within the buffer, whose length stays
cut_behind-keeps : (n : ℕ) → KeepsSegs (cut_behind n)
cut_behind-keeps n buf seg new is e =
    made_where (nat_le n seg.data_len) buf _ new (λ room. (omega (arith, leb-true n _ room, is.0), is.1)) e

-- a change of a packet leaves one
abbrev KeepsPackets : (List Seg → Option (List Seg)) → Type 0
KeepsPackets change =
    (buf : ℕ) (segs new : List Seg) → IsPacketOf buf segs → change segs ≡ Some new →
    IsPacketOf buf new

-- with one segment changed there are as many, and that one has its data within its buffer
with_seg-keeps : (buf k : ℕ) (segs new : List Seg) (o : Option Seg) → IsPacketOf buf segs →
    ((seg : Seg) → o ≡ Some seg → IsSegOf buf seg) → with_seg k segs o ≡ Some new → IsPacketOf buf new
with_seg-keeps buf k segs new None is changed e = absurd cc
with_seg-keeps buf k segs new (Some seg) is changed e =
    let are = segs_of buf segs is in
    let long = length-set segs k seg in
    subst (IsPacketOf buf) (some-is (set segs k seg) new e)
    (of_segs buf (set segs k seg) (
      omega (arith, long, are.0),
      omega (arith, long, are.1),
      All-set (IsSegOf buf) segs k seg (changed seg refl) are.2,
    ))

-- an append changes the last segment, within its tailroom
appended-keeps : (n : ℕ) → KeepsPackets (appended n)
appended-keeps n buf segs new is e =
    let are = segs_of buf segs is in
    let last = get_or segs (length segs - 1) no_seg in
    with_seg-keeps buf (length segs - 1) segs new (grown_behind n last) is
    (λ seg f. grown_behind-keeps n buf last seg (are.2 (length segs - 1) no_seg (omega (arith, are.0))) f) e

-- a prepend changes the first segment, within its headroom
prepended-keeps : (n : ℕ) → KeepsPackets (prepended n)
prepended-keeps n buf segs new is e =
    let are = segs_of buf segs is in
    let first = get_or segs 0 no_seg in
    with_seg-keeps buf 0 segs new (grown_in_front n first) is
    (λ seg f. grown_in_front-keeps n buf first seg (are.2 0 no_seg (omega (arith, are.0))) f) e

-- an adj cuts the first segment's data in front
adjusted-keeps : (n : ℕ) → KeepsPackets (adjusted n)
adjusted-keeps n buf segs new is e =
    let are = segs_of buf segs is in
    let first = get_or segs 0 no_seg in
    with_seg-keeps buf 0 segs new (cut_in_front n first) is
    (λ seg f. cut_in_front-keeps n buf first seg (are.2 0 no_seg (omega (arith, are.0))) f) e

-- a trim cuts the last segment's data behind
trimmed-keeps : (n : ℕ) → KeepsPackets (trimmed n)
trimmed-keeps n buf segs new is e =
    let are = segs_of buf segs is in
    let last = get_or segs (length segs - 1) no_seg in
    with_seg-keeps buf (length segs - 1) segs new (cut_behind n last) is
    (λ seg f. cut_behind-keeps n buf last seg (are.2 (length segs - 1) no_seg (omega (arith, are.0))) f) e

-- what stands in a slot of a table of packets is one
stands_as : (buf : ℕ) (table : List (Option (List Seg))) (slot : ℕ) (segs : List Seg) → AreSlotsOf buf table →
    get_or table slot None ≡ Some segs → IsPacketOf buf segs
stands_as buf table slot segs all there = rw there at (all slot)

-- the changed packet comes into the slot of the old one, or the old one stays
resize_to-stay : (o : Option (List Seg)) (cause : Refusal) (slot : ℕ) (m : Member) (s : Shared) →
    ((new : List Seg) → o ≡ Some new → IsPacketOf m.limits.buf new) →
    Stay m s (told_beside s (resize_to o cause slot m))
resize_to-stay None cause slot m s is all = all
resize_to-stay (Some new) cause slot m s is all =
    (set-packets m.limits.buf m.table slot (Some new) (is new refl) all.0, all.1)

-- an empty slot stays empty, and a packet is changed to a packet of the same buffers
resize_in-stay : (o : Option (List Seg)) (change : List Seg → Option (List Seg)) (cause : Refusal)
    (slot : ℕ) (m : Member) (s : Shared) →
    get_or m.table slot None ≡ o → KeepsPackets change →
    Stay m s (told_beside s (resize_in o change cause slot m))
resize_in-stay None change cause slot m s there keeps all = all
resize_in-stay (Some segs) change cause slot m s there keeps all =
    let stands = stands_as m.limits.buf m.table slot segs all.0 there in
    resize_to-stay (change segs) cause slot m s (λ new e. keeps m.limits.buf segs new stands e) all

-- ---- packets of several segments, and shared buffers

-- two packets of at most 32 segments together are one packet, each segment as it was
joined-packet : (buf : ℕ) (first second : List Seg) → IsPacketOf buf first → IsPacketOf buf second →
    length first + length second ≤ max_segs → IsPacketOf buf (first ++ second)
joined-packet buf first second one two few =
    let a = segs_of buf first one in
    let b = segs_of buf second two in
    let long = length-append first second in
    of_segs buf (first ++ second) (
      omega (arith, long, a.0),
      omega (arith, long, few),
      All-append (IsSegOf buf) first second a.2 b.2,
    )

-- the joined packet comes into the head's slot and none into the tail's, or the chain is refused
chain_in-stay : (one two : Option (List Seg)) (head tail : ℕ) (m : Member) (s : Shared) →
    get_or m.table head None ≡ one →
    get_or m.table tail None ≡ two → Stay m s (chained_beside head s (chain_in one two head tail m))
chain_in-stay None two head tail m s e f all = all
chain_in-stay (Some first) None head tail m s e f all = all
chain_in-stay (Some first) (Some second) head tail m s e f all = elim (cases_Bool (head == tail)) [
  | inl both ↦ rw both all
  | inr apart ↦ elim (cases_Bool (nat_lt max_segs (length first + length second))) [
    | inl long ↦ rw (apart, long) all
    | inr few ↦
        let buf = m.limits.buf in
        let joined =
        joined-packet buf first second (stands_as buf m.table head first all.0 e)
        (stands_as buf m.table tail second all.0 f)
        (ltb-false max_segs (length first + length second) few) in
        let with_both = set-packets buf m.table head (Some (first ++ second)) joined all.0 in
        rw (apart, few) (set-packets buf (set m.table head (Some (first ++ second))) tail None tt with_both, all.1)
  ]
]

-- a segment that is attached has the buffer's lengths
attached-packet : (buf e : ℕ) (seg : Seg) → IsSegOf buf seg → IsPacketOf buf (attached e seg ∷ [])
attached-packet buf e seg is = one-packet buf (attached e seg) (is.0, is.1)

-- the attached packet has the lengths of the segment whose buffer it uses, which are the pool's
attach_to-stay : (found : Result (ℕ × Seg) Refusal) (held : ℕ → ℕ) (mi target : ℕ) (m : Member) (s : Shared) →
    pair_in m mi target ≡ found → Stay m s (beside s (attach_to found held mi m))
attach_to-stay (Err cause) held mi target m s f all = all
attach_to-stay (Ok (e, seg)) held mi target m s f all = elim (cases_Bool (held e == 1)) [
  | inl alone ↦ elim (cases_Bool (held (buffer_of seg) == m.limits.ref_limit)) [
    | inl full ↦ rw (alone, full) all
    | inr below ↦
        let found = found_pair (get_or m.table mi None) (get_or m.table target None) (mi == target) e seg f in
        let buffer = segs_of m.limits.buf (seg ∷ found.others)
        (stands_as m.limits.buf m.table target (seg ∷ found.others) all.0 found.there) in
        let new = attached-packet m.limits.buf e seg (buffer.2 0 no_seg (omega arith)) in
        rw (alone, below) (set-packets m.limits.buf m.table mi (Some (attached e seg ∷ [])) new all.0, all.1)
  ]
  | inr used ↦ rw used all
]

-- a detached packet is as a fresh one, with a buffer of the pool's length
detach_from-stay : (found : Result (ℕ × ℕ) Refusal) (held : ℕ → ℕ) (slot : ℕ) (m : Member) (s : Shared) →
    Stay m s (detach_from found held slot m s)
detach_from-stay (Err cause) held slot m s all = all
detach_from-stay (Ok (e, base)) held slot m s all = (
  set-packets m.limits.buf m.table slot (Some (fresh_seg m.limits e ∷ [])) (fresh-packet m.limits e) all.0,
  same_desks m.limits.buf s.desks _ (end_holds-IsEnded m.limits (λ i. held i - one base i)
      (base ∷ []) (freed_nothing, m.cache, s)).desks all.1,
)

-- clones are as many as what was cloned, each with its lengths
abbrev IsCloneOf : ℕ → ℕ → Cloned → Type 0
IsCloneOf buf n (Ok new, cache, t) = (length new ≡ n) × All (IsSegOf buf) new
IsCloneOf buf n (Err cause, cache, t) = Unit {0}

-- each segment becomes one clone with its lengths, unless all are given up
clone_segs-packets : (l : Limits) (held : ℕ → ℕ) (buf n : ℕ) (segs new : List Seg) (cache : List ℕ) (s : Shared) →
    length new + length segs ≡ n → All (IsSegOf buf) segs → All (IsSegOf buf) new →
    IsCloneOf buf n (clone_segs l held segs new cache s)
clone_segs-packets l held buf n [] new cache s long are so_far = (omega (arith, long), so_far)
clone_segs-packets l held buf n (seg ∷ segs) new cache s long are so_far =
    let b = buffer_of seg in
    element_of (IsCloneOf buf n) (get l 1 cache s)
    (λ e left t. if held b + bag (holds_of_packet new) b == l.ref_limit then give_up l held
    (holds_of_packet new ++ e ∷ []) RefSpent left t else clone_segs l held segs (new ++ attached e seg ∷ []) left t)
    (λ cause left t. give_up l held (holds_of_packet new) cause left t)
    (λ e left t. elim (cases_Bool (held b + bag (holds_of_packet new) b == l.ref_limit)) [
      | inl full ↦ rw full tt
      | inr below ↦
          let one = segs_of buf (attached e seg ∷ []) (attached-packet buf e seg (are 0 no_seg (omega arith))) in
          rw below (clone_segs-packets l held buf n segs (new ++ attached e seg ∷ []) left t
          (omega (arith, long, length-append new (attached e seg ∷ [])))
          (λ k d within. are (suc k) d (omega (arith, within)))
          (All-append (IsSegOf buf) new (attached e seg ∷ []) so_far one.2))
    ])
    (λ cause left t. tt)

-- as many clones as segments are a packet; given up, none comes into the slot
clone_to-stay : (slot : ℕ) (m : Member) (s : Shared) (r : Cloned) (n : ℕ) → 1 ≤ n → n ≤ max_segs →
    IsCloneOf m.limits.buf n r →
    (clone_to slot m r).2.desks ≡ s.desks → Stay m s (clone_to slot m r)
clone_to-stay slot m s (Ok new, cache, t) n some few is desks all =
    let packet = of_segs m.limits.buf new (omega (arith, is.0, some), omega (arith, is.0, few), is.1) in
    (set-packets m.limits.buf m.table slot (Some new) packet all.0, same_desks m.limits.buf s.desks t.desks desks all.1)
clone_to-stay slot m s (Err cause, cache, t) n some few is desks all =
    (all.0, same_desks m.limits.buf s.desks t.desks desks all.1)

-- the source is a packet with the pool's buffers, so its clone is one too
clone_at-stay : (found : Result (List Seg × ℕ) Refusal) (held : ℕ → ℕ) (source : ℕ) (m : Member) (s : Shared) →
    clonable (get_or m.table source None) (free_slot m.table) ≡ found → (clone_at found held m s).2.desks ≡ s.desks →
    Stay m s (clone_at found held m s)
clone_at-stay (Err cause) held source m s f desks all = all
clone_at-stay (Ok (segs, slot)) held source m s f desks all =
    let buf = m.limits.buf in
    let here = clonable_there (get_or m.table source None) (free_slot m.table) segs slot f in
    let are = segs_of buf segs (stands_as buf m.table source segs all.0 here) in
    clone_to-stay slot m s (clone_segs m.limits held segs [] m.cache s) (length segs) are.0 are.1
    (clone_segs-packets m.limits held buf (length segs) segs [] m.cache s (omega arith) are.2
    (All-nil (IsSegOf buf))) desks all

-- ---- desks

-- the packet that lies on the desk is the one that stood in the slot
offer_onto-stay : (place : Option (List Seg)) (segs : List Seg) (slot desk : ℕ) (m : Member) (s : Shared) →
    get_or m.table slot None ≡ Some segs → Stay m s (offer_onto place segs slot desk m s)
offer_onto-stay (Some other) segs slot desk m s there all = all
offer_onto-stay None segs slot desk m s there all = (
  set-packets m.limits.buf m.table slot None tt all.0,
  set-packets m.limits.buf s.desks desk (Some segs)
      (stands_as m.limits.buf m.table slot segs all.0 there) all.1,
)

-- an offer of nothing, or without such a desk, writes nothing
offer_in-stay : (content : Option (List Seg)) (slot desk : ℕ) (m : Member) (s : Shared) →
    get_or m.table slot None ≡ content →
    Stay m s (offer_in content slot desk m s)
offer_in-stay None slot desk m s there all = all
offer_in-stay (Some segs) slot desk m s there all = elim (cases_Bool (nat_le (length s.desks) desk)) [
  | inl past ↦ rw past all
  | inr here ↦ rw here (offer_onto-stay (get_or s.desks desk None) segs slot desk m s there all)
]

-- the packet that stands in the slot is the one that lay on the desk
take_from-stay : (place : Option (List Seg)) (slot desk : ℕ) (m : Member) (s : Shared) →
    get_or s.desks desk None ≡ place →
    Stay m s (take_from place slot desk m s)
take_from-stay None slot desk m s there all = all
take_from-stay (Some segs) slot desk m s there all = (
  set-packets m.limits.buf m.table slot (Some segs) (stands_as m.limits.buf s.desks desk segs all.1 there) all.0,
  set-packets m.limits.buf s.desks desk None tt all.1,
)

-- without a free slot nothing is taken
take_into-stay : (slot : Option ℕ) (desk : ℕ) (m : Member) (s : Shared) → Stay m s (take_into slot desk m s)
take_into-stay None desk m s all = all
take_into-stay (Some slot) desk m s all = take_from-stay (get_or s.desks desk None) slot desk m s refl all

-- without such a desk nothing is taken
take_off-stay : (desk : ℕ) (m : Member) (s : Shared) → Stay m s (take_off desk m s)
take_off-stay desk m s all = elim (cases_Bool (nat_le (length s.desks) desk)) [
  | inl past ↦ rw past all
  | inr here ↦ rw here (take_into-stay (free_slot m.table) desk m s all)
]

-- each act of a worker leaves packets in its slots and on the desks
pub act_stays : (act : Act) (others held : ℕ → ℕ) (elsewhere : ℕ → ℕ → ℕ) (m : Member) (s : Shared) →
    Leaves act others m s (member_act act held elsewhere m s) → Stay m s (member_act act held elsewhere m s)
act_stays Alloc others held elsewhere m s left all = alloc_in-stay (free_slot m.table) m s all
act_stays (AllocBulk n) others held elsewhere m s left all = alloc_bulk-stay n m s all
act_stays (Free slot) others held elsewhere m s left all =
    free_in-stay (get_or m.table slot None) (elsewhere slot) slot m s all
act_stays (Append slot n) others held elsewhere m s left all =
    resize_in-stay (get_or m.table slot None) (appended n) NoRoom slot m s refl (appended-keeps n) all
act_stays (Prepend slot n) others held elsewhere m s left all =
    resize_in-stay (get_or m.table slot None) (prepended n) NoRoom slot m s refl (prepended-keeps n) all
act_stays (Adj slot n) others held elsewhere m s left all =
    resize_in-stay (get_or m.table slot None) (adjusted n) TooShort slot m s refl (adjusted-keeps n) all
act_stays (Trim slot n) others held elsewhere m s left all =
    resize_in-stay (get_or m.table slot None) (trimmed n) TooShort slot m s refl (trimmed-keeps n) all
act_stays (Chain head tail) others held elsewhere m s left all =
    chain_in-stay (get_or m.table head None) (get_or m.table tail None) head tail m s refl refl all
act_stays (Attach mi target) others held elsewhere m s left all =
    attach_to-stay (pair_in m mi target) held mi target m s refl all
act_stays (Detach slot) others held elsewhere m s left all =
    detach_from-stay (detachable (get_or m.table slot None)) held slot m s all
act_stays (ClonePacket source) others held elsewhere m s left all =
    clone_at-stay (clonable (get_or m.table source None) (free_slot m.table)) held source m s refl
    (clone_desks (ClonePacket source) source s.desks _ refl left.desks) all
act_stays (Offer slot desk) others held elsewhere m s left all =
    offer_in-stay (get_or m.table slot None) slot desk m s refl all
act_stays (Take desk) others held elsewhere m s left all = take_off-stay desk m s all
act_stays (CountOf slot) others held elsewhere m s left all = all
act_stays (PktLen slot) others held elsewhere m s left all = all
act_stays (NbSegs slot) others held elsewhere m s left all = all
act_stays Flush others held elsewhere m s left all =
    (all.0, same_desks m.limits.buf s.desks _ (flush-IsPut m.cache s).desks all.1)
