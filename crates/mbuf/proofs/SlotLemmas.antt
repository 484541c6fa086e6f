-- Which slots of a worker's table an act writes.
use Rattle.std.proofs.Common.{ℕ, suc, ◌≡◌, ◌+◌, ◌-◌, ◌≤◌, ◌==◌, inl, inr, nat_lt, All, List, [], ◌∷◌, ◌++◌, length, get_or, get_or-set_other, get_or-set_same, map, set, take, Option, Some, None, Result, Ok, Err, refl, sym, subst, ◌∙◌, ap, arith}
use Rattle.std.proofs.lemmas.Bool.{cases_Bool}
use Rattle.std.proofs.lemmas.List.Elements.{All-nil, All-cons, All-take, All-weaker}
use Rattle.commons.specs.declared.limits.Limits.{Limits}
use Rattle.commons.specs.declared.packet.Seg.{Seg}
use Rattle.commons.specs.declared.refusal.Refusal.{Refusal}
use Rattle.commons.specs.declared.refusal.Refusal.TheVariants.{NoRoom, TooShort}
use Rattle.commons.specs.Calls.{Call}
use Rattle.commons.specs.Packets.{max_segs, pkt_len}
use Rattle.mbuf.specs.Acts.{Performs, Reply, allocated, allocated_bulk, attached as attached_reply, chained, cloned, freed, new_packet, offered, taken, told_both, told_count, told_len, told_segs}
use Rattle.mbuf.specs.declared.acts.Act.{Act}
use Rattle.mbuf.specs.declared.acts.Act.TheVariants as act
use Rattle.mbuf.specs.declared.acts.NewPacket.{NewPacket}
use Rattle.mbuf.specs.declared.freed.Freed.{Freed}
use Rattle.mbuf.specs.Desks.{Offers, NothingThere, NotOffered, WasOffered, Takes, NoDesk, NoSlot, NotTaken, WasTaken}
use Rattle.mbuf.specs.Lengths.{appended, prepended, adjusted, trimmed}
use Rattle.mbuf.specs.Members.{Member}
use Rattle.mbuf.specs.PacketRules.{Allocs, Full, NotGot, Fresh, AllocsBulk, TooFull, BulkNotGot, FreshBulk, Frees, NoPacket, WasFreed, Resizes, Chains, chain_in, free_from, free_slots, fresh_seg, of_packet, resize_in, resize_to, stood}
use Rattle.mbuf.specs.Sharing.{Attaches, NotAttachable, HeldElsewhere, NotRaised, WasAttached, Detaches, NotDetachable, WasDetached, Clones, NotClonable, WasGivenUp, WasCloned, attached}
use Rattle.mbuf.specs.Slots.{IsNoneOf, LeavesOtherSlots, filled_slots, named_slots}
use Rattle.mbuf.proofs.ActLemmas.{clonable_free}
use Rattle.mbuf.proofs.OwnLemmas.{free_slot-is}

-- A worker's slots but these and those that the reply says were filled are as before, and those
-- were free.
pub record Writes (named : List ℕ) (m : Member) (reply : Reply) (after : Member) : Type 0 where
  pub others : (slot : ℕ) → IsNoneOf named slot → IsNoneOf (filled_slots reply) slot →
      get_or after.table slot None ≡ get_or m.table slot None
  pub free : All (λ slot. get_or m.table slot None ≡ None) (filled_slots reply)

-- no slot is filled
pub none_filled : (table : List (Option (List Seg))) (reply : Reply) → filled_slots reply ≡ [] →
    All (λ slot. get_or table slot None ≡ None) (filled_slots reply)
none_filled table reply none = rw none (All-nil (λ slot. get_or table slot None ≡ None))

-- the table is as before
pub same_table : (named : List ℕ) (m after : Member) (reply : Reply) → filled_slots reply ≡ [] → after.table ≡ m.table →
    Writes named m reply after
same_table named m after reply none same = record {
  others = λ slot apart new. ap (λ (table : List (Option (List Seg))). get_or table slot None) same;
  free = none_filled m.table reply none;
}

-- a slot that is named is written
pub named_table : (m after : Member) (reply : Reply) (written : ℕ) (new : Option (List Seg)) → filled_slots reply ≡ [] →
    after.table ≡ set m.table written new → Writes (written ∷ []) m reply after
named_table m after reply written new none is = record {
  others = λ slot apart filled.
      ap (λ (table : List (Option (List Seg))). get_or table slot None) is
      ∙ get_or-set_other m.table written slot new None (apart 0 0 (omega arith));
  free = none_filled m.table reply none;
}

-- a free one is filled
pub filled_table : (m after : Member) (reply : Reply) (written : ℕ) (new : Option (List Seg)) →
    filled_slots reply ≡ written ∷ [] →
    after.table ≡ set m.table written new → get_or m.table written None ≡ None →
    Writes [] m reply after
filled_table m after reply written new told is free = record {
  others = λ slot apart filled.
      let other = rw told at filled in
      ap (λ (table : List (Option (List Seg))). get_or table slot None) is
      ∙ get_or-set_other m.table written slot new None (other 0 0 (omega arith));
  free =
      rw told (All-cons (λ slot. get_or m.table slot None ≡ None) written [] free
      (All-nil (λ slot. get_or m.table slot None ≡ None)));
}

-- ---- a bulk's slots

-- packets that stand in some slots leave the others
pub stood-others : (l : Limits) (es slots : List ℕ) (table : List (Option (List Seg))) (slot : ℕ) →
    IsNoneOf slots slot →
    get_or (stood l es slots table) slot None ≡ get_or table slot None
stood-others l [] slots table slot apart = refl
stood-others l (e ∷ es) [] table slot apart = refl
stood-others l (e ∷ es) (first ∷ slots) table slot apart =
    stood-others l es slots (set table first (Some (fresh_seg l e ∷ []))) slot
    (λ k d within. apart (suc k) d (omega (arith, within)))
    ∙ get_or-set_other table first slot (Some (fresh_seg l e ∷ [])) None (apart 0 0 (omega arith))

-- the free slots of a table, the first of which has this number
abbrev FreeFrom : ℕ → List (Option (List Seg)) → ℕ → Type 0
FreeFrom first table slot = (first ≤ slot) × (get_or table (slot - first) None ≡ None)

-- the free slots of a table are those behind its first slot
next_free : (first slot : ℕ) (head : Option (List Seg)) (table : List (Option (List Seg))) →
    FreeFrom (first + 1) table slot →
    FreeFrom first (head ∷ table) slot
next_free first slot head table free =
    let n : slot - first ≡ suc (slot - (first + 1)) = omega (arith, free.0) in
    (omega (arith, free.0), rw n free.1)

-- Each slot that is listed as free shows nothing.
are_free : (first : ℕ) (table : List (Option (List Seg))) → All (FreeFrom first table) (free_from first table)
are_free first [] = All-nil (FreeFrom first [])
are_free first (None ∷ table) =
    let n : first - first ≡ 0 = omega arith in
    All-cons (FreeFrom first (None ∷ table)) first (free_from (first + 1) table) (omega arith, rw n refl)
    (All-weaker (FreeFrom (first + 1) table) (FreeFrom first (None ∷ table))
    (λ slot free. next_free first slot None table free)
    (free_from (first + 1) table) (are_free (first + 1) table))
are_free first (Some segs ∷ table) =
    All-weaker (FreeFrom (first + 1) table) (FreeFrom first (Some segs ∷ table))
    (λ slot free. next_free first slot (Some segs) table free)
    (free_from (first + 1) table) (are_free (first + 1) table)

-- The first slots that are listed as free show nothing.
pub first_are_free : (n : ℕ) (table : List (Option (List Seg))) →
    All (λ slot. get_or table slot None ≡ None) (take n (free_slots table))
first_are_free n table = All-take (λ slot. get_or table slot None ≡ None) n (free_slots table)
    (All-weaker (FreeFrom 0 table) (λ slot. get_or table slot None ≡ None)
    (λ slot free. let same : slot - 0 ≡ slot = omega arith in rw same at free.1) (free_slots table) (are_free 0 table))

-- the reply to a bulk tells of its slots
pub bulk_slots : (table : List (Option (List Seg))) (slots : List ℕ) →
    map (λ (packet : NewPacket). packet.slot) (map (new_packet table) slots) ≡ slots
bulk_slots table [] = refl
bulk_slots table (slot ∷ slots) = ap (λ (xs : List ℕ). slot ∷ xs) (bulk_slots table slots)

-- ---- replies that fill none

-- what is reported of a packet fills no slot
pub told_both-fills : (slot : Option (List Seg)) → filled_slots (told_both slot) ≡ []
told_both-fills None = refl
told_both-fills (Some segs) = refl

-- a reply that tells a length fills no slot
pub told_len-fills : (r : Result ℕ Refusal) → filled_slots (told_len r) ≡ []
told_len-fills (Ok len) = refl
told_len-fills (Err cause) = refl

-- a reply that tells a number of segments fills no slot
pub told_segs-fills : (r : Result ℕ Refusal) → filled_slots (told_segs r) ≡ []
told_segs-fills (Ok segs) = refl
told_segs-fills (Err cause) = refl

-- a reply that tells a count fills no slot
pub told_count-fills : (r : Result ℕ Refusal) → filled_slots (told_count r) ≡ []
told_count-fills (Ok count) = refl
told_count-fills (Err cause) = refl

-- a packet is written into one slot, and another slot is freed, which the reply tells of the first
pub two_tables : (m : Member) (head tail : ℕ) (new : Option (List Seg)) → let table =
    set (set m.table head new) tail None in
    Writes (head ∷ tail ∷ []) m (told_both (get_or table head None)) (record m { table = table })
two_tables m head tail new = record {
  others = λ slot named filled.
      get_or-set_other (set m.table head new) tail slot None None (named 1 0 (omega arith))
      ∙ get_or-set_other m.table head slot new None (named 0 0 (omega arith));
  free = none_filled m.table (told_both (get_or (set (set m.table head new) tail None) head None))
      (told_both-fills (get_or (set (set m.table head new) tail None) head None));
}

-- ---- each call's rule

-- the worker is as before
same_member : (named : List ℕ) (m after : Member) (reply : Reply) → filled_slots reply ≡ [] →
    after ≡ m → Writes named m reply after
same_member named m after reply none same = same_table named m after reply none (ap (λ (x : Member). x.table) same)

-- an alloc writes the free slot that its reply names
alloc-writes : (m after : Member) (calls : List Call) (answer : Result ℕ Refusal) → Allocs m calls answer after →
    Writes [] m (allocated answer after.table) after
alloc-writes m after calls answer (Full f c a k) = rw a (same_member [] m after _ refl k)
alloc-writes m after calls answer (NotGot slot f cause g a k) = rw a (same_member [] m after _ refl k)
alloc-writes m after calls answer (Fresh slot e f got left g c a k) =
    rw a (filled_table m after _ slot (Some (fresh_seg m.limits e ∷ [])) refl
    (ap (λ (x : Member). x.table) k) (free_slot-is m.table slot f).1)

-- a bulk writes the free slots that its reply names
bulk-writes : (m after : Member) (n : ℕ) (calls : List Call) (answer : Result (List ℕ) Refusal) →
    AllocsBulk m n calls answer after →
    Writes [] m (allocated_bulk answer after.table) after
bulk-writes m after n calls answer (TooFull f c a k) = rw a (same_member [] m after _ refl k)
bulk-writes m after n calls answer (BulkNotGot f cause g a k) = rw a (same_member [] m after _ refl k)
bulk-writes m after n calls answer (FreshBulk es long room got left g c a k) =
    let slots = take n (free_slots m.table) in
    let told = bulk_slots after.table slots in
    rw a (record {
      others =
          λ slot apart filled. ap (λ (x : Member). get_or x.table slot None) k
          ∙ stood-others m.limits es slots m.table slot
          (rw told at filled);
      free = rw told (first_are_free n m.table);
    })

-- a free writes the slot that it names
free-writes : (m after : Member) (slot : ℕ) (calls : List Call) (answer : Result Freed Refusal) →
    Frees m slot calls answer after →
    Writes (slot ∷ []) m (freed answer) after
free-writes m after slot calls answer (NoPacket f c a k) = rw a (same_member (slot ∷ []) m after _ refl k)
free-writes m after slot calls answer (WasFreed segs left done f g a k) =
    rw a (named_table m after _ slot None refl (ap (λ (x : Member). x.table) k))

-- a change of lengths, by what it does to the packet in the slot
resized-writes : (m : Member) (slot : ℕ) (cause : Refusal) (o : Option (List Seg)) →
    let done = resize_to o cause slot m in Writes (slot ∷ []) m (told_len done.0) done.1
resized-writes m slot cause None = same_member (slot ∷ []) m m _ refl refl
resized-writes m slot cause (Some new) = named_table m _ _ slot (Some new) refl refl

-- a change of lengths writes the slot that it names, if a packet stands there
resize_in-writes : (m : Member) (slot : ℕ) (cause : Refusal) (change : List Seg → Option (List Seg))
    (o : Option (List Seg)) →
    let done = resize_in o change cause slot m in Writes (slot ∷ []) m (told_len done.0) done.1
resize_in-writes m slot cause change None = same_member (slot ∷ []) m m _ refl refl
resize_in-writes m slot cause change (Some segs) = resized-writes m slot cause (change segs)

-- an append, prepend, adj or trim, by the change that it is
resize-writes : (m after : Member) (slot : ℕ) (cause : Refusal)
    (change : List Seg → Option (List Seg)) (answer : Result ℕ Refusal) →
    Resizes change cause m slot answer after → Writes (slot ∷ []) m (told_len answer) after
resize-writes m after slot cause change answer is =
    subst (λ (done : Result ℕ Refusal × Member). Writes (slot ∷ []) m (told_len done.0) done.1) (sym is)
    (resize_in-writes m slot cause change (get_or m.table slot None))

-- a chain writes the two slots that it names, or none
chain_in-writes : (m : Member) (head tail : ℕ) (one two : Option (List Seg)) →
    let done = chain_in one two head tail m in
    Writes (head ∷ tail ∷ []) m (chained done.0 (get_or done.1.table head None)) done.1
chain_in-writes m head tail None two = same_member (head ∷ tail ∷ []) m m _ refl refl
chain_in-writes m head tail (Some first) None = same_member (head ∷ tail ∷ []) m m _ refl refl
chain_in-writes m head tail (Some first) (Some second) = elim (cases_Bool (head == tail)) [
  | inl both ↦ rw both (same_member (head ∷ tail ∷ []) m m _ refl refl)
  | inr apart ↦ elim (cases_Bool (nat_lt max_segs (length first + length second))) [
    | inl long ↦ rw (apart, long) (same_member (head ∷ tail ∷ []) m m _ refl refl)
    | inr few ↦ rw (apart, few) (two_tables m head tail (Some (first ++ second)))
  ]
]

-- a chain, by what is in its two slots
chain-writes : (m after : Member) (head tail : ℕ) (answer : Result (Unit {0}) Refusal) →
    Chains m head tail answer after →
    Writes (head ∷ tail ∷ []) m (chained answer (get_or after.table head None)) after
chain-writes m after head tail answer is =
    subst (λ (done : Result (Unit {0}) Refusal × Member). Writes (head ∷ tail ∷ []) m
    (chained done.0 (get_or done.1.table head None)) done.1) (sym is)
    (chain_in-writes m head tail (get_or m.table head None) (get_or m.table tail None))

-- an attach writes the slot of the packet that is attached
attach-writes : (m after : Member) (slot target : ℕ) (calls : List Call) (answer : Result (Unit {0}) Refusal) →
    Attaches m slot target calls answer after → Writes (slot ∷ []) m (attached_reply answer) after
attach-writes m after slot target calls answer (NotAttachable cause f c a k) =
    rw a (same_member (slot ∷ []) m after _ refl k)
attach-writes m after slot target calls answer (HeldElsewhere e n seg f other c a k) =
    rw a (same_member (slot ∷ []) m after _ refl k)
attach-writes m after slot target calls answer (NotRaised e seg f cause c a k) =
    rw a (same_member (slot ∷ []) m after _ refl k)
attach-writes m after slot target calls answer (WasAttached e seg f c a k) =
    rw a (named_table m after _ slot (Some (attached e seg ∷ [])) refl (ap (λ (x : Member). x.table) k))

-- a detach writes the slot that it names
detach-writes : (m after : Member) (slot : ℕ) (calls : List Call) (answer : Result Freed Refusal) →
    Detaches m slot calls answer after →
    Writes (slot ∷ []) m (freed answer) after
detach-writes m after slot calls answer (NotDetachable cause f c a k) = rw a (same_member (slot ∷ []) m after _ refl k)
detach-writes m after slot calls answer (WasDetached e base f left done g a k) =
    rw a (named_table m after _ slot (Some (fresh_seg m.limits e ∷ [])) refl (ap (λ (x : Member). x.table) k))

-- a clone writes the free slot that its reply names
clone-writes : (m after : Member) (source : ℕ) (calls : List Call) (answer : Result ℕ Refusal) →
    Clones m source calls answer after →
    Writes [] m (cloned answer after.table) after
clone-writes m after source calls answer (NotClonable cause f c a k) = rw a (same_member [] m after _ refl k)
clone-writes m after source calls answer (WasGivenUp segs slot f cause left g a k) =
    rw a (same_table [] m after _ refl (ap (λ (x : Member). x.table) k))
clone-writes m after source calls answer (WasCloned segs slot f new left g a k) =
    let free = clonable_free (get_or m.table source None) _ segs slot f in
    rw a (filled_table m after _ slot (Some new) refl (ap (λ (x : Member). x.table) k)
    (free_slot-is m.table slot free).1)

-- an offer writes the slot that it names
offer-writes : (m after : Member) (slot desk : ℕ) (calls : List Call) (answer : Result (Unit {0}) Refusal) →
    Offers m slot desk calls answer after → Writes (slot ∷ []) m (offered answer) after
offer-writes m after slot desk calls answer (NothingThere f c a k) = rw a (same_member (slot ∷ []) m after _ refl k)
offer-writes m after slot desk calls answer (NotOffered segs f cause c a k) =
    rw a (same_member (slot ∷ []) m after _ refl k)
offer-writes m after slot desk calls answer (WasOffered segs f c a k) =
    rw a (named_table m after _ slot None refl (ap (λ (x : Member). x.table) k))

-- a take writes the free slot that its reply names
take-writes : (m after : Member) (desk : ℕ) (calls : List Call) (answer : Result ℕ Refusal) →
    Takes m desk calls answer after →
    Writes [] m (taken answer after.table) after
take-writes m after desk calls answer (NoDesk d c a k) = rw a (same_member [] m after _ refl k)
take-writes m after desk calls answer (NoSlot d f c a k) = rw a (same_member [] m after _ refl k)
take-writes m after desk calls answer (NotTaken d slot f cause c a k) = rw a (same_member [] m after _ refl k)
take-writes m after desk calls answer (WasTaken d slot f segs c a k) =
    let free = free_slot-is m.table slot f in
    let table : after.table ≡ set m.table slot (Some segs) = ap (λ (x : Member). x.table) k in
    let there : get_or after.table slot None ≡ Some segs =
    ap (λ (t : List (Option (List Seg))). get_or t slot None) table
    ∙ get_or-set_same m.table slot (Some segs) None free.0 in
    rw (a, there) (filled_table m after _ slot (Some segs) refl table free.1)

-- what is written by a rule is what the reply of an act tells
told_by : (named : List ℕ) (m after : Member) (r reply : Reply) → r ≡ reply →
    Writes named m reply after → Writes named m r after
told_by named m after r reply is writes = rw is writes

-- Each act is one of these, or writes no slot.
act-writes : (a : Act) (m : Member) (calls : List Call) (r : Reply) (after : Member) → Performs a m calls r after →
    Writes (named_slots a) m r after
act-writes act.Alloc m calls r after did = told_by [] m after r _ did.2 (alloc-writes m after calls did.0 did.1)
act-writes (act.AllocBulk n) m calls r after did =
    told_by [] m after r _ did.2 (bulk-writes m after n calls did.0 did.1)
act-writes (act.Free p) m calls r after did =
    told_by (p ∷ []) m after r _ did.2 (free-writes m after p calls did.0 did.1)
act-writes (act.Append p n) m calls r after did =
    told_by (p ∷ []) m after r _ did.3 (resize-writes m after p NoRoom (appended n) did.0 did.1)
act-writes (act.Prepend p n) m calls r after did =
    told_by (p ∷ []) m after r _ did.3 (resize-writes m after p NoRoom (prepended n) did.0 did.1)
act-writes (act.Adj p n) m calls r after did =
    told_by (p ∷ []) m after r _ did.3 (resize-writes m after p TooShort (adjusted n) did.0 did.1)
act-writes (act.Trim p n) m calls r after did =
    told_by (p ∷ []) m after r _ did.3 (resize-writes m after p TooShort (trimmed n) did.0 did.1)
act-writes (act.Chain head tail) m calls r after did =
    told_by (head ∷ tail ∷ []) m after r _ did.3 (chain-writes m after head tail did.0 did.1)
act-writes (act.Attach mi target) m calls r after did =
    told_by (mi ∷ []) m after r _ did.2 (attach-writes m after mi target calls did.0 did.1)
act-writes (act.Detach p) m calls r after did =
    told_by (p ∷ []) m after r _ did.2 (detach-writes m after p calls did.0 did.1)
act-writes (act.ClonePacket p) m calls r after did =
    told_by [] m after r _ did.2 (clone-writes m after p calls did.0 did.1)
act-writes (act.Offer p desk) m calls r after did =
    told_by (p ∷ []) m after r _ did.2 (offer-writes m after p desk calls did.0 did.1)
act-writes (act.Take desk) m calls r after did =
    told_by [] m after r _ did.2 (take-writes m after desk calls did.0 did.1)
act-writes (act.CountOf p) m calls r after did =
    told_by [] m after r _ did.3 (same_member [] m after _ (told_count-fills did.0) did.2)
act-writes (act.PktLen p) m calls r after did =
    told_by [] m after r _ did.2 (same_member [] m after _
    (told_len-fills (of_packet pkt_len (get_or m.table p None))) did.0)
act-writes (act.NbSegs p) m calls r after did =
    told_by [] m after r _ did.2 (same_member [] m after _
    (told_segs-fills (of_packet length (get_or m.table p None))) did.0)
act-writes act.Flush m calls r after did =
    told_by [] m after r _ did.3 (same_table [] m after _ refl (ap (λ (x : Member). x.table) did.2))

-- an act leaves the slots that it doesn't name
pub act_leaves_slots : (a : Act) (m : Member) (calls : List Call) (r : Reply) (after : Member) →
    Performs a m calls r after →
    LeavesOtherSlots a r m after
act_leaves_slots a m calls r after did =
    let writes = act-writes a m calls r after did in record { others = writes.others; filled = writes.free }
