-- An act that is refused changes nothing; a clone leaves at least the packets.
use Rattle.std.proofs.Common.{ℕ, ◌≡◌, ◌≢◌, ◌+◌, ◌==◌, inl, inr, nat_lt, nat_le, List, [], ◌∷◌, ◌++◌, length, get_or, get_or-set_same, get_or-set_other, set, take, Option, Some, None, Result, Ok, Err, refl, ◌∙◌, ap, arith}
use Rattle.std.proofs.lemmas.Bool.{cases_Bool, eqb-false}
use Rattle.commons.specs.declared.packet.Seg.{Seg}
use Rattle.commons.specs.declared.refusal.Refusal.{Refusal}
use Rattle.commons.specs.declared.refusal.Refusal.TheVariants.{NoRoom, TooShort}
use Rattle.commons.specs.Packets.{max_segs}
use Rattle.commons.proofs.PacketBags.{stands_within}
use Rattle.mbuf.specs.Acts.{Reply, told_both}
use Rattle.mbuf.specs.declared.acts.Act.{Act}
use Rattle.mbuf.specs.declared.acts.Act.TheVariants.{Alloc, AllocBulk, Free, Append, Prepend, Adj, Trim, Chain, Attach, Detach, ClonePacket, Offer, Take, CountOf, PktLen, NbSegs, Flush}
use Rattle.mbuf.specs.declared.acts.Answer.TheVariants.{Refused}
use Rattle.mbuf.specs.Lengths.{appended, prepended, adjusted, trimmed}
use Rattle.mbuf.specs.Members.{Member}
use Rattle.mbuf.specs.PacketRules.{chain_in, free_slot, free_slots, resize_in, resize_to}
use Rattle.mbuf.specs.Sharing.{buffer_of, detachable, pair_in}
use Rattle.pool_model.specs.Pool.{Shared}
use Rattle.pool_model.specs.CacheModel.{get}
use Rattle.pool_model.specs.SharingModel.{Cloned, attach_to, clone_at, clone_segs, clone_to, detach_from}
use Rattle.pool_model.specs.PacketModel.{alloc_bulk, alloc_in, beside, chained_beside, fill_slot, fill_slots, free_in, member_act, offer_in, offer_onto, take_from, take_into, take_off, told_beside}
use Rattle.pool_model.proofs.CacheBags.{IsGot, get-IsGot}

-- where the worker is refused, it and what all share are as before
abbrev pub SameIfRefused : Member → Shared → Reply × Member × Shared → Type 0
SameIfRefused m s done = (cause : Refusal) → done.0 ≡ Refused cause → (done.1 ≡ m) × (done.2 ≡ s)

same : (m : Member) (s : Shared) (reply : Reply) → SameIfRefused m s (reply, m, s)
same m s reply cause e = (refl, refl)

-- a get that is refused changed nothing
fill_slot-same : (slot : ℕ) (m : Member) (s : Shared)
    (r : Result (List ℕ) Refusal × List ℕ × Shared) → IsGot 1 m.cache s r →
    SameIfRefused m s (fill_slot slot m r)
fill_slot-same slot m s (Ok [], cache, t) got cause e = absurd (omega (arith, got.long))
fill_slot-same slot m s (Ok (x ∷ xs), cache, t) got cause e = absurd cc
fill_slot-same slot m s (Err other, cache, t) got cause e =
    let none = got.refused other refl in
    (ap (λ (c : List ℕ). let after : Member = record m { cache = c } in after) none.0, none.1)

-- an alloc with no free slot is refused before its get
alloc_in-same : (slot : Option ℕ) (m : Member) (s : Shared) → SameIfRefused m s (alloc_in slot m s)
alloc_in-same None m s = same m s _
alloc_in-same (Some slot) m s = fill_slot-same slot m s (get m.limits 1 m.cache s) (get-IsGot m.limits 1 m.cache s)

-- a bulk is refused only where its get was, and a get that is refused changed nothing
fill_slots-same : (n : ℕ) (slots : List ℕ) (m : Member) (s : Shared)
    (r : Result (List ℕ) Refusal × List ℕ × Shared) → IsGot n m.cache s r →
    SameIfRefused m s (fill_slots slots m r)
fill_slots-same n slots m s (Ok es, cache, t) got cause e = absurd cc
fill_slots-same n slots m s (Err other, cache, t) got cause e =
    let none = got.refused other refl in
    (ap (λ (c : List ℕ). let after : Member = record m { cache = c } in after) none.0, none.1)

-- a bulk with too few free slots is refused before its get
alloc_bulk-same : (n : ℕ) (m : Member) (s : Shared) → SameIfRefused m s (alloc_bulk n m s)
alloc_bulk-same n m s = elim (cases_Bool (nat_lt (length (free_slots m.table)) n)) [
  | inl e ↦ rw e (same m s _)
  | inr e ↦
      rw e (fill_slots-same n (take n (free_slots m.table)) m s (get m.limits n m.cache s)
      (get-IsGot m.limits n m.cache s))
]

-- a free is refused only where no packet stands
free_in-same : (content : Option (List Seg)) (elsewhere : ℕ → ℕ) (slot : ℕ) (m : Member)
    (s : Shared) → SameIfRefused m s (free_in content elsewhere slot m s)
free_in-same None elsewhere slot m s = same m s _
free_in-same (Some segs) elsewhere slot m s = λ cause e. absurd cc

-- a change of lengths that is refused changes nothing
resize_to-same : (o : Option (List Seg)) (why : Refusal) (slot : ℕ) (m : Member) (s : Shared) →
    SameIfRefused m s (told_beside s (resize_to o why slot m))
resize_to-same None why slot m s = same m s _
resize_to-same (Some new) why slot m s = λ cause e. absurd cc

-- a change of lengths of an empty slot is refused before anything is written
resize_in-same : (o : Option (List Seg)) (change : List Seg → Option (List Seg)) (why : Refusal)
    (slot : ℕ) (m : Member) (s : Shared) →
    SameIfRefused m s (told_beside s (resize_in o change why slot m))
resize_in-same None change why slot m s = same m s _
resize_in-same (Some segs) change why slot m s = resize_to-same (change segs) why slot m s

-- of a packet that stands there more is told than a refusal
told_there : (slot : Option (List Seg)) (segs : List Seg) (cause : Refusal) → slot ≡ Some segs →
    told_both slot ≢ Refused cause
told_there None segs cause there e = absurd cc
told_there (Some other) segs cause there e = absurd cc

-- a chain is refused before it writes; one that is done tells of the packet in the head's slot
chain_in-same : (one two : Option (List Seg)) (head tail : ℕ) (m : Member) (s : Shared) →
    get_or m.table head None ≡ one →
    SameIfRefused m s (chained_beside head s (chain_in one two head tail m))
chain_in-same None two head tail m s there = same m s _
chain_in-same (Some first) None head tail m s there = same m s _
chain_in-same (Some first) (Some second) head tail m s there = elim (cases_Bool (head == tail)) [
  | inl both ↦ rw both (same m s _)
  | inr apart ↦ elim (cases_Bool (nat_lt max_segs (length first + length second))) [
    | inl long ↦ rw (apart, long) (same m s _)
    | inr few ↦
        let joined = set m.table head (Some (first ++ second)) in
        let other : head ≢ tail = eqb-false head tail apart in
        let stands : get_or (set joined tail None) head None ≡ Some (first ++ second) =
        get_or-set_other joined tail head None None other
        ∙ get_or-set_same m.table head (Some (first ++ second)) None
        (stands_within m.table head first there) in
        rw (apart, few) (λ cause e.
        absurd (told_there (get_or (set joined tail None) head None) (first ++ second) cause
        stands e))
  ]
]

-- an attach is refused where another hold or the limit is found, before it writes
attach_to-same : (found : Result (ℕ × Seg) Refusal) (held : ℕ → ℕ) (mi : ℕ) (m : Member)
    (s : Shared) → SameIfRefused m s (beside s (attach_to found held mi m))
attach_to-same (Err why) held mi m s = same m s _
attach_to-same (Ok (e, seg)) held mi m s = elim (cases_Bool (held e == 1)) [
  | inl alone ↦ elim (cases_Bool (held (buffer_of seg) == m.limits.ref_limit)) [
    | inl full ↦ rw (alone, full) (same m s _)
    | inr below ↦ rw (alone, below) (λ cause e. absurd cc)
  ]
  | inr used ↦ rw used (same m s _)
]

-- a detach is refused only before its base's hold ends
detach_from-same : (found : Result (ℕ × ℕ) Refusal) (held : ℕ → ℕ) (slot : ℕ) (m : Member)
    (s : Shared) → SameIfRefused m s (detach_from found held slot m s)
detach_from-same (Err why) held slot m s = same m s _
detach_from-same (Ok (e, base)) held slot m s = λ cause told. absurd cc

-- an offer is refused where the desk is taken, and then nothing was written
offer_onto-same : (place : Option (List Seg)) (segs : List Seg) (slot desk : ℕ) (m : Member)
    (s : Shared) → SameIfRefused m s (offer_onto place segs slot desk m s)
offer_onto-same (Some other) segs slot desk m s = same m s _
offer_onto-same None segs slot desk m s = λ cause e. absurd cc

-- an offer of nothing, or without such a desk, is refused before it looks at what lies there
offer_in-same : (content : Option (List Seg)) (slot desk : ℕ) (m : Member) (s : Shared) →
    SameIfRefused m s (offer_in content slot desk m s)
offer_in-same None slot desk m s = same m s _
offer_in-same (Some segs) slot desk m s = elim (cases_Bool (nat_le (length s.desks) desk)) [
  | inl past ↦ rw past (same m s _)
  | inr here ↦ rw here (offer_onto-same (get_or s.desks desk None) segs slot desk m s)
]

-- a take is refused where the desk is empty, and then nothing was written
take_from-same : (place : Option (List Seg)) (slot desk : ℕ) (m : Member) (s : Shared) →
    SameIfRefused m s (take_from place slot desk m s)
take_from-same None slot desk m s = same m s _
take_from-same (Some segs) slot desk m s = λ cause e. absurd cc

-- a take with no free slot is refused before it looks at the desk
take_into-same : (free : Option ℕ) (desk : ℕ) (m : Member) (s : Shared) → SameIfRefused m s (take_into free desk m s)
take_into-same None desk m s = same m s _
take_into-same (Some slot) desk m s = take_from-same (get_or s.desks desk None) slot desk m s

-- a take without such a desk is refused first
take_off-same : (desk : ℕ) (m : Member) (s : Shared) → SameIfRefused m s (take_off desk m s)
take_off-same desk m s = elim (cases_Bool (nat_le (length s.desks) desk)) [
  | inl past ↦ rw past (same m s _)
  | inr here ↦ rw here (take_into-same (free_slot m.table) desk m s)
]

-- each act but a clone changes nothing where it is refused
pub same_if_refused : (act : Act) (held : ℕ → ℕ) (elsewhere : ℕ → ℕ → ℕ) (m : Member) (s : Shared) →
    ((source : ℕ) → act ≢ ClonePacket source) →
    SameIfRefused m s (member_act act held elsewhere m s)
same_if_refused Alloc held elsewhere m s other = alloc_in-same (free_slot m.table) m s
same_if_refused (AllocBulk n) held elsewhere m s other = alloc_bulk-same n m s
same_if_refused (Free slot) held elsewhere m s other = free_in-same (get_or m.table slot None) (elsewhere slot) slot m s
same_if_refused (Append slot n) held elsewhere m s other =
    resize_in-same (get_or m.table slot None) (appended n) NoRoom slot m s
same_if_refused (Prepend slot n) held elsewhere m s other =
    resize_in-same (get_or m.table slot None) (prepended n) NoRoom slot m s
same_if_refused (Adj slot n) held elsewhere m s other =
    resize_in-same (get_or m.table slot None) (adjusted n) TooShort slot m s
same_if_refused (Trim slot n) held elsewhere m s other =
    resize_in-same (get_or m.table slot None) (trimmed n) TooShort slot m s
same_if_refused (Chain head tail) held elsewhere m s other =
    chain_in-same (get_or m.table head None) (get_or m.table tail None) head tail m s refl
same_if_refused (Attach mi target) held elsewhere m s other = attach_to-same (pair_in m mi target) held mi m s
same_if_refused (Detach slot) held elsewhere m s other =
    detach_from-same (detachable (get_or m.table slot None)) held slot m s
same_if_refused (ClonePacket source) held elsewhere m s other = absurd (other source refl)
same_if_refused (Offer slot desk) held elsewhere m s other = offer_in-same (get_or m.table slot None) slot desk m s
same_if_refused (Take desk) held elsewhere m s other = take_off-same desk m s
same_if_refused (CountOf slot) held elsewhere m s other = same m s _
same_if_refused (PktLen slot) held elsewhere m s other = same m s _
same_if_refused (NbSegs slot) held elsewhere m s other = same m s _
same_if_refused Flush held elsewhere m s other = λ cause e. absurd cc

-- a clone that is refused leaves all of the worker but its cache
abbrev CacheAlone : Member → Reply × Member × Shared → Type 0
CacheAlone m done = (cause : Refusal) → done.0 ≡ Refused cause → done.1 ≡ record m { cache = done.1.cache }

-- a clone that was given up stands in no slot, and only the cache was written
clone_to-packets : (slot : ℕ) (m : Member) (r : Cloned) → CacheAlone m (clone_to slot m r)
clone_to-packets slot m (Ok new, cache, t) cause e = absurd cc
clone_to-packets slot m (Err why, cache, t) cause e = refl

-- a clone is refused before it begins, or once it was given up
pub clone_at-packets : (found : Result (List Seg × ℕ) Refusal) (held : ℕ → ℕ) (m : Member)
    (s : Shared) → CacheAlone m (clone_at found held m s)
clone_at-packets (Err why) held m s = λ cause e. refl
clone_at-packets (Ok (segs, slot)) held m s = clone_to-packets slot m (clone_segs m.limits held segs [] m.cache s)
