-- Which slots of its worker each act leaves.
use Rattle.std.proofs.Common.{ℕ, ◌≡◌, ◌+◌, ◌-◌, ◌<◌, ◌==◌, inl, inr, nat_lt, nat_le, All, List, [], ◌∷◌, ◌++◌, length, get_or, get_or-set_same, take, Option, Some, None, Result, Ok, Err, refl, arith}
use Rattle.std.proofs.lemmas.Bool.{cases_Bool}
use Rattle.std.proofs.lemmas.List.Elements.{All-nil}
use Rattle.commons.specs.declared.packet.Seg.{Seg}
use Rattle.commons.specs.declared.refusal.Refusal.{Refusal}
use Rattle.commons.specs.declared.refusal.Refusal.TheVariants.{NoRoom, TooShort}
use Rattle.commons.specs.Packets.{max_segs, pkt_len}
use Rattle.mbuf.specs.Acts.{Reply}
use Rattle.mbuf.specs.declared.acts.Act.{Act}
use Rattle.mbuf.specs.declared.acts.Act.TheVariants.{Alloc, AllocBulk, Free, Append, Prepend, Adj, Trim, Chain, Attach, Detach, ClonePacket, Offer, Take, CountOf, PktLen, NbSegs, Flush}
use Rattle.mbuf.specs.Lengths.{appended, prepended, adjusted, trimmed}
use Rattle.mbuf.specs.Members.{Member}
use Rattle.mbuf.specs.PacketRules.{chain_in, free_slot, free_slots, fresh_seg, of_packet, resize_in, resize_to}
use Rattle.mbuf.specs.Sharing.{buffer_of, clonable, detachable, first_seg, pair_in}
use Rattle.mbuf.proofs.ActLemmas.{clonable_free}
use Rattle.mbuf.proofs.OwnLemmas.{free_slot-is}
use Rattle.mbuf.specs.Slots.{LeavesOtherSlots, named_slots}
use Rattle.mbuf.proofs.SlotLemmas.{Writes, bulk_slots, filled_table, first_are_free, named_table, same_table, stood-others, told_count-fills, told_len-fills, told_segs-fills, two_tables}
use Rattle.pool_model.specs.Pool.{Shared, Pool, held_of, member_at, nobody, with_member}
use Rattle.pool_model.specs.CacheModel.{get}
use Rattle.pool_model.specs.PacketModel.{act_on, alloc_bulk, alloc_in, beside, chained_beside, fill_slot, fill_slots, free_in, held_elsewhere, member_act, offer_in, offer_onto, perform, take_from, take_into, take_off, told_beside}
use Rattle.pool_model.specs.SharingModel.{Cloned, attach_to, clone_at, clone_segs, clone_to, detach_from}
use Rattle.pool_model.specs.Standing.{worker_of}
use Rattle.pool_model.proofs.ActLeaves.{of_act}

-- what an act writes of a worker's slots
abbrev Wrote : List ℕ → Member → Reply × Member × Shared → Type 0
Wrote named m done = Writes named m done.0 done.1

-- ---- one act after another

-- one slot is filled, which was free, or none where the get was refused
fill_slot-writes : (slot : ℕ) (m : Member) (s : Shared) (r : Result (List ℕ) Refusal × List ℕ × Shared) →
    get_or m.table slot None ≡ None → Wrote [] m (fill_slot slot m r)
fill_slot-writes slot m s (Ok [], cache, t) free = same_table [] m m _ refl refl
fill_slot-writes slot m s (Ok (e ∷ es), cache, t) free =
    filled_table m _ _ slot (Some (fresh_seg m.limits e ∷ [])) refl refl free
fill_slot-writes slot m s (Err cause, cache, t) free = same_table [] m _ _ refl refl

-- the slot that an alloc fills is the lowest free one; with none free it fills none
alloc_in-writes : (slot : Option ℕ) (m : Member) (s : Shared) → free_slot m.table ≡ slot →
    Wrote [] m (alloc_in slot m s)
alloc_in-writes None m s is = same_table [] m m _ refl refl
alloc_in-writes (Some slot) m s is =
    fill_slot-writes slot m s (get m.limits 1 m.cache s) (free_slot-is m.table slot is).1

-- the slots filled are those told of, all free before, and none where the get was refused
fill_slots-writes : (slots : List ℕ) (m : Member) (s : Shared) (r : Result (List ℕ) Refusal × List ℕ × Shared) →
    All (λ slot. get_or m.table slot None ≡ None) slots → Wrote [] m (fill_slots slots m r)
fill_slots-writes slots m s (Ok es, cache, t) free = record {
  others = λ slot apart filled. stood-others m.limits es slots m.table slot (rw bulk_slots at filled);
  free = rw bulk_slots free;
}
fill_slots-writes slots m s (Err cause, cache, t) free = same_table [] m _ _ refl refl

-- the slots of a bulk are taken from the free ones
alloc_bulk-writes : (n : ℕ) (m : Member) (s : Shared) → Wrote [] m (alloc_bulk n m s)
alloc_bulk-writes n m s = elim (cases_Bool (nat_lt (length (free_slots m.table)) n)) [
  | inl e ↦ rw e (same_table [] m m _ refl refl)
  | inr e ↦
      rw e (fill_slots-writes (take n (free_slots m.table)) m s (get m.limits n m.cache s)
      (first_are_free n m.table))
]

-- a free empties the slot that it names
free_in-writes : (content : Option (List Seg)) (elsewhere : ℕ → ℕ) (slot : ℕ) (m : Member) (s : Shared) →
    Wrote (slot ∷ []) m (free_in content elsewhere slot m s)
free_in-writes None elsewhere slot m s = same_table (slot ∷ []) m m _ refl refl
free_in-writes (Some segs) elsewhere slot m s = named_table m _ _ slot None refl refl

-- the changed packet stands in the slot that the act names, or nothing changed
resize_to-writes : (o : Option (List Seg)) (cause : Refusal) (slot : ℕ) (m : Member) (s : Shared) →
    Wrote (slot ∷ []) m (told_beside s (resize_to o cause slot m))
resize_to-writes None cause slot m s = same_table (slot ∷ []) m m _ refl refl
resize_to-writes (Some new) cause slot m s = named_table m _ _ slot (Some new) refl refl

-- a change of lengths writes the slot that it names, where a packet stands there
resize_in-writes : (o : Option (List Seg)) (change : List Seg → Option (List Seg)) (cause : Refusal)
    (slot : ℕ) (m : Member) (s : Shared) →
    Wrote (slot ∷ []) m (told_beside s (resize_in o change cause slot m))
resize_in-writes None change cause slot m s = same_table (slot ∷ []) m m _ refl refl
resize_in-writes (Some segs) change cause slot m s = resize_to-writes (change segs) cause slot m s

-- a chain writes the two slots that it names, or is refused and writes none
chain_in-writes : (one two : Option (List Seg)) (head tail : ℕ) (m : Member) (s : Shared) →
    Wrote (head ∷ tail ∷ []) m (chained_beside head s (chain_in one two head tail m))
chain_in-writes None two head tail m s = same_table (head ∷ tail ∷ []) m m _ refl refl
chain_in-writes (Some first) None head tail m s = same_table (head ∷ tail ∷ []) m m _ refl refl
chain_in-writes (Some first) (Some second) head tail m s = elim (cases_Bool (head == tail)) [
  | inl both ↦ rw both (same_table (head ∷ tail ∷ []) m m _ refl refl)
  | inr apart ↦ elim (cases_Bool (nat_lt max_segs (length first + length second))) [
    | inl long ↦ rw (apart, long) (same_table (head ∷ tail ∷ []) m m _ refl refl)
    | inr few ↦ rw (apart, few) (two_tables m head tail (Some (first ++ second)))
  ]
]

-- an attach writes the slot of the packet that it changes, and not the one of the buffer
attach_to-writes : (found : Result (ℕ × Seg) Refusal) (held : ℕ → ℕ) (slot : ℕ) (m : Member) (s : Shared) →
    Wrote (slot ∷ []) m (beside s (attach_to found held slot m))
attach_to-writes (Err cause) held slot m s = same_table (slot ∷ []) m m _ refl refl
attach_to-writes (Ok (e, seg)) held slot m s = elim (cases_Bool (held e == 1)) [
  | inl alone ↦ elim (cases_Bool (held (buffer_of seg) == m.limits.ref_limit)) [
    | inl full ↦ rw (alone, full) (same_table (slot ∷ []) m m _ refl refl)
    | inr below ↦ rw (alone, below) (named_table m _ _ slot _ refl refl)
  ]
  | inr used ↦ rw used (same_table (slot ∷ []) m m _ refl refl)
]

-- a detach writes the slot that it names
detach_from-writes : (found : Result (ℕ × ℕ) Refusal) (held : ℕ → ℕ) (slot : ℕ) (m : Member) (s : Shared) →
    Wrote (slot ∷ []) m (detach_from found held slot m s)
detach_from-writes (Err cause) held slot m s = same_table (slot ∷ []) m m _ refl refl
detach_from-writes (Ok (e, base)) held slot m s = named_table m _ _ slot (Some (fresh_seg m.limits e ∷ [])) refl refl

-- the clone comes into the free slot, and one that was given up into none
clone_to-writes : (slot : ℕ) (m : Member) (r : Cloned) → get_or m.table slot None ≡ None →
    Wrote [] m (clone_to slot m r)
clone_to-writes slot m (Ok new, cache, t) free = filled_table m _ _ slot (Some new) refl refl free
clone_to-writes slot m (Err cause, cache, t) free = same_table [] m _ _ refl refl

-- the slot found for a clone is the lowest free one, and the source's slot is not written
clone_at-writes : (source : Option (List Seg)) (found : Result (List Seg × ℕ) Refusal)
    (held : ℕ → ℕ) (m : Member) (s : Shared) →
    clonable source (free_slot m.table) ≡ found → Wrote [] m (clone_at found held m s)
clone_at-writes source (Err cause) held m s is = same_table [] m m _ refl refl
clone_at-writes source (Ok (segs, slot)) held m s is =
    clone_to-writes slot m (clone_segs m.limits held segs [] m.cache s)
    (free_slot-is m.table slot (clonable_free source (free_slot m.table) segs slot is)).1

-- an offer empties the slot that it names, or leaves it where the desk is taken
offer_onto-writes : (place : Option (List Seg)) (segs : List Seg) (slot desk : ℕ) (m : Member) (s : Shared) →
    Wrote (slot ∷ []) m (offer_onto place segs slot desk m s)
offer_onto-writes (Some other) segs slot desk m s = same_table (slot ∷ []) m m _ refl refl
offer_onto-writes None segs slot desk m s = named_table m _ _ slot None refl refl

-- an offer of nothing, or without such a desk, writes no slot
offer_in-writes : (content : Option (List Seg)) (slot desk : ℕ) (m : Member) (s : Shared) →
    Wrote (slot ∷ []) m (offer_in content slot desk m s)
offer_in-writes None slot desk m s = same_table (slot ∷ []) m m _ refl refl
offer_in-writes (Some segs) slot desk m s = elim (cases_Bool (nat_le (length s.desks) desk)) [
  | inl past ↦ rw past (same_table (slot ∷ []) m m _ refl refl)
  | inr here ↦ rw here (offer_onto-writes (get_or s.desks desk None) segs slot desk m s)
]

-- the packet of the desk comes into the free slot; an empty desk fills none
take_from-writes : (place : Option (List Seg)) (slot desk : ℕ) (m : Member) (s : Shared) →
    get_or m.table slot None ≡ None →
    Wrote [] m (take_from place slot desk m s)
take_from-writes None slot desk m s free = same_table [] m m _ refl refl
take_from-writes (Some segs) slot desk m s free = filled_table m _ _ slot (Some segs) refl refl free

-- the slot that a take fills is the lowest free one
take_into-writes : (slot : Option ℕ) (desk : ℕ) (m : Member) (s : Shared) →
    free_slot m.table ≡ slot → Wrote [] m (take_into slot desk m s)
take_into-writes None desk m s is = same_table [] m m _ refl refl
take_into-writes (Some slot) desk m s is =
    take_from-writes (get_or s.desks desk None) slot desk m s (free_slot-is m.table slot is).1

-- a take fills a free slot, or none where there is no such desk
take_off-writes : (desk : ℕ) (m : Member) (s : Shared) → Wrote [] m (take_off desk m s)
take_off-writes desk m s = elim (cases_Bool (nat_le (length s.desks) desk)) [
  | inl past ↦ rw past (same_table [] m m _ refl refl)
  | inr here ↦ rw here (take_into-writes (free_slot m.table) desk m s refl)
]

-- each act writes no slot of its worker but those that it names or that were free
act_writes : (act : Act) (held : ℕ → ℕ) (elsewhere : ℕ → ℕ → ℕ) (m : Member) (s : Shared) →
    Wrote (named_slots act) m (member_act act held elsewhere m s)
act_writes Alloc held elsewhere m s = alloc_in-writes (free_slot m.table) m s refl
act_writes (AllocBulk n) held elsewhere m s = alloc_bulk-writes n m s
act_writes (Free slot) held elsewhere m s = free_in-writes (get_or m.table slot None) (elsewhere slot) slot m s
act_writes (Append slot n) held elsewhere m s = resize_in-writes (get_or m.table slot None) (appended n) NoRoom slot m s
act_writes (Prepend slot n) held elsewhere m s =
    resize_in-writes (get_or m.table slot None) (prepended n) NoRoom slot m s
act_writes (Adj slot n) held elsewhere m s = resize_in-writes (get_or m.table slot None) (adjusted n) TooShort slot m s
act_writes (Trim slot n) held elsewhere m s = resize_in-writes (get_or m.table slot None) (trimmed n) TooShort slot m s
act_writes (Chain head tail) held elsewhere m s =
    chain_in-writes (get_or m.table head None) (get_or m.table tail None) head tail m s
act_writes (Attach slot target) held elsewhere m s = attach_to-writes (pair_in m slot target) held slot m s
act_writes (Detach slot) held elsewhere m s = detach_from-writes (detachable (get_or m.table slot None)) held slot m s
act_writes (ClonePacket source) held elsewhere m s =
    clone_at-writes (get_or m.table source None)
    (clonable (get_or m.table source None) (free_slot m.table)) held m s refl
act_writes (Offer slot desk) held elsewhere m s = offer_in-writes (get_or m.table slot None) slot desk m s
act_writes (Take desk) held elsewhere m s = take_off-writes desk m s
act_writes (CountOf slot) held elsewhere m s =
    same_table [] m m _ (told_count-fills
    (of_packet (λ segs. held (first_seg segs).elem) (get_or m.table slot None))) refl
act_writes (PktLen slot) held elsewhere m s =
    same_table [] m m _ (told_len-fills (of_packet pkt_len (get_or m.table slot None))) refl
act_writes (NbSegs slot) held elsewhere m s =
    same_table [] m m _ (told_segs-fills (of_packet length (get_or m.table slot None))) refl
act_writes Flush held elsewhere m s = same_table [] m _ _ refl refl

-- ---- of a pool

-- what a worker did leaves its other slots
done_leaves : (pool : Pool) (n : ℕ) (act : Act) (done : Reply × Member × Shared) → done ≡ act_on pool n act →
    LeavesOtherSlots act done.0 (member_at pool n) done.1
done_leaves pool n act done is =
    let writes : Wrote (named_slots act) (member_at pool n) done = rw is
    (act_writes act (held_of pool.members pool.shared.desks) (held_elsewhere pool n) (member_at pool n) pool.shared) in
    record { others = writes.others; filled = writes.free }

-- the worker at a place, once it has changed
changed_worker : (pool : Pool) (worker n : ℕ) (m : Member) (s : Shared) → worker ≡ n + 1 → n < length pool.members →
    (worker_of pool worker ≡ member_at pool n) × (worker_of (with_member pool n m s) worker ≡ m)
changed_worker pool worker n m s number within =
    let at : worker - 1 ≡ n = omega (arith, number) in
    rw at (refl, get_or-set_same pool.members n m (nobody pool.limits) within)

-- the worker who acts keeps the slots that the act doesn't write, and a stranger's act writes none
pub slots_left : (pool : Pool) (worker : ℕ) (act : Act) →
    let done = perform pool worker act in LeavesOtherSlots act done.0 (worker_of pool worker) (worker_of done.1 worker)
slots_left pool worker act =
    of_act (λ r. LeavesOtherSlots act r.0 (worker_of pool worker) (worker_of r.1 worker)) pool worker act
    (record {
      others = λ slot named filled. refl;
      filled = All-nil (λ slot. get_or (worker_of pool worker).table slot None ≡ None);
    })
    (λ n done number within is left. let at =
    changed_worker pool worker n done.1 done.2 number within in rw (at.0, at.1)
    (done_leaves pool n act done is))
