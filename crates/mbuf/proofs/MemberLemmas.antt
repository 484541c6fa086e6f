-- An act keeps the worker: its number, its limits and the slots of its table.
use Rattle.std.proofs.Common.{◌≡◌, ℕ, ◌+◌, ◌==◌, Bool, true, false, cond, nat_lt, List, [], ◌∷◌, ◌++◌, length, length-set, take, get_or, set, Option, Some, None, Result, Ok, Err, refl, sym, ap, ◌∙◌, subst}
use Rattle.commons.specs.Calls.{Call}
use Rattle.commons.specs.Packets.{max_segs}
use Rattle.commons.specs.declared.limits.Limits.{Limits}
use Rattle.commons.specs.declared.packet.Seg.{Seg}
use Rattle.commons.specs.declared.refusal.Refusal.{Refusal}
use Rattle.commons.specs.declared.refusal.Refusal.TheVariants.{NoRoom, TooShort, SamePacket, TooManySegs}
use Rattle.mbuf.specs.Acts.{Performs, Reply}
use Rattle.mbuf.specs.declared.acts.Act.{Act}
use Rattle.mbuf.specs.declared.acts.Act.TheVariants as act
use Rattle.mbuf.specs.declared.freed.Freed.{Freed}
use Rattle.mbuf.specs.Desks.{Offers, NothingThere, NotOffered, WasOffered, Takes, NoDesk, NoSlot, NotTaken, WasTaken}
use Rattle.mbuf.specs.Lengths.{appended, prepended, adjusted, trimmed}
use Rattle.mbuf.specs.Members.{Member, KeepsMember, slots}
use Rattle.mbuf.specs.PacketRules.{Allocs, Full, NotGot, Fresh, AllocsBulk, TooFull, BulkNotGot, FreshBulk, Frees, NoPacket, WasFreed, Resizes, resize_to, resize_in, Chains, chain_in, free_slots, fresh_seg, stood}
use Rattle.mbuf.specs.Sharing.{Attaches, NotAttachable, HeldElsewhere, NotRaised, WasAttached, Detaches, NotDetachable, WasDetached, Clones, NotClonable, WasGivenUp, WasCloned, attached}

-- limits and number stay, and the table has as many slots
record Keeps (m after : Member) : Type 0 where
  limits : after.limits ≡ m.limits
  number : after.number ≡ m.number
  table : length after.table ≡ length m.table

-- what doesn't change is kept
same : (m after : Member) → after ≡ m → Keeps m after
same m after e = record {
  limits = ap (λ (x : Member). x.limits) e;
  number = ap (λ (x : Member). x.number) e;
  table = ap (λ (x : Member). length x.table) e;
}

-- cache and table alone differ
other : (m after : Member) (cache : List ℕ) (table : List (Option (List Seg))) →
    length table ≡ length m.table → after ≡ record m { cache = cache; table = table } →
    Keeps m after
other m after cache table len e = record {
  limits = ap (λ (x : Member). x.limits) e;
  number = ap (λ (x : Member). x.number) e;
  table = ap (λ (x : Member). length x.table) e ∙ len;
}

-- cache and one slot of the table alone differ
slot_other : (m after : Member) (cache : List ℕ) (slot : ℕ) (new : Option (List Seg)) →
    after ≡ record m { cache = cache; table = set m.table slot new } → Keeps m after
slot_other m after cache slot new e = other m after cache (set m.table slot new) (length-set m.table slot new) e

-- a table is as long once packets stand in it
length-stood : (l : Limits) (es free : List ℕ) (table : List (Option (List Seg))) →
    length (stood l es free table) ≡ length table
length-stood l [] free table = refl
length-stood l (e ∷ es) [] table = refl
length-stood l (e ∷ es) (slot ∷ free) table =
    length-stood l es free (set table slot (Some (fresh_seg l e ∷ [])))
    ∙ length-set table slot (Some (fresh_seg l e ∷ []))

-- an alloc fills a slot or nothing
alloc_keeps : (m : Member) (calls : List Call) (answer : Result ℕ Refusal) (after : Member) →
    Allocs m calls answer after → Keeps m after
alloc_keeps m calls answer after (Full f c a k) = same m after k
alloc_keeps m calls answer after (NotGot s f cause g a k) = same m after k
alloc_keeps m calls answer after (Fresh s e f got left g c a k) =
    slot_other m after left s (Some (fresh_seg m.limits e ∷ [])) k

-- a bulk fills slots or nothing
bulk_keeps : (m : Member) (n : ℕ) (calls : List Call) (answer : Result (List ℕ) Refusal)
    (after : Member) → AllocsBulk m n calls answer after → Keeps m after
bulk_keeps m n calls answer after (TooFull f c a k) = same m after k
bulk_keeps m n calls answer after (BulkNotGot f cause g a k) = same m after k
bulk_keeps m n calls answer after (FreshBulk es long room got left g c a k) =
    other m after left (stood m.limits es (take n (free_slots m.table)) m.table)
    (length-stood m.limits es (take n (free_slots m.table)) m.table) k

-- a free empties a slot or nothing
free_keeps : (m : Member) (slot : ℕ) (calls : List Call) (answer : Result Freed Refusal)
    (after : Member) → Frees m slot calls answer after → Keeps m after
free_keeps m slot calls answer after (NoPacket f c a k) = same m after k
free_keeps m slot calls answer after (WasFreed segs left done f e a k) = slot_other m after left slot None k

-- a change of lengths sets a slot or nothing
resize_to_keeps : (new : Option (List Seg)) (cause : Refusal) (slot : ℕ) (m : Member) →
    Keeps m (resize_to new cause slot m).1
resize_to_keeps None cause slot m = same m m refl
resize_to_keeps (Some segs) cause slot m =
    slot_other m (record m { table = set m.table slot (Some segs) }) m.cache slot (Some segs) refl

-- where no packet stands, no slot is set
resize_in_keeps : (old : Option (List Seg)) (change : List Seg → Option (List Seg))
    (cause : Refusal) (slot : ℕ) (m : Member) → Keeps m (resize_in old change cause slot m).1
resize_in_keeps None change cause slot m = same m m refl
resize_in_keeps (Some segs) change cause slot m = resize_to_keeps (change segs) cause slot m

-- an append, prepend, adj or trim, by the change that it is
resize_keeps : (change : List Seg → Option (List Seg)) (cause : Refusal) (m : Member) (slot : ℕ)
    (answer : Result ℕ Refusal) (after : Member) → Resizes change cause m slot answer after →
    Keeps m after
resize_keeps change cause m slot answer after h =
    subst (λ (x : Member). Keeps m x) (sym (ap (λ (p : Result ℕ Refusal × Member). p.1) h))
    (resize_in_keeps (get_or m.table slot None) change cause slot m)

-- what both of two outcomes keep is kept, whichever it is
either_keeps : (b : Bool) (m : Member) (x y : Result (Unit {0}) Refusal × Member) → Keeps m x.1 →
    Keeps m y.1 → Keeps m (cond b x y).1
either_keeps true m x y h k = h
either_keeps false m x y h k = k

-- a chain sets the head's slot and empties the tail's, or does nothing
chain_in_keeps : (first second : Option (List Seg)) (head tail : ℕ) (m : Member) →
    Keeps m (chain_in first second head tail m).1
chain_in_keeps None second head tail m = same m m refl
chain_in_keeps (Some first) None head tail m = same m m refl
chain_in_keeps (Some first) (Some second) head tail m =
    let joined : Member = record m { table = set (set m.table head (Some (first ++ second))) tail None } in
    let done : Keeps m joined =
    other m joined m.cache (set (set m.table head (Some (first ++ second))) tail None)
    (length-set (set m.table head (Some (first ++ second))) tail None
    ∙ length-set m.table head (Some (first ++ second))) refl in
    let rest : Result (Unit {0}) Refusal × Member =
    cond (nat_lt max_segs (length first + length second)) (Err TooManySegs, m) (Ok tt, joined)
    in
    either_keeps (head == tail) m (Err SamePacket, m) rest (same m m refl)
    (either_keeps (nat_lt max_segs (length first + length second)) m (Err TooManySegs, m)
    (Ok tt, joined) (same m m refl) done)

-- a chain, by what is in its two slots
chain_keeps : (m : Member) (head tail : ℕ) (answer : Result (Unit {0}) Refusal) (after : Member) →
    Chains m head tail answer after → Keeps m after
chain_keeps m head tail answer after h =
    subst (λ (x : Member). Keeps m x) (sym (ap (λ (p : Result (Unit {0}) Refusal × Member). p.1) h))
    (chain_in_keeps (get_or m.table head None) (get_or m.table tail None) head tail m)

-- an attach sets a slot or nothing
attach_keeps : (m : Member) (mi target : ℕ) (calls : List Call) (answer : Result (Unit {0}) Refusal)
    (after : Member) → Attaches m mi target calls answer after → Keeps m after
attach_keeps m mi target calls answer after (NotAttachable cause f c a k) = same m after k
attach_keeps m mi target calls answer after (HeldElsewhere e n seg f h c a k) = same m after k
attach_keeps m mi target calls answer after (NotRaised e seg f cause c a k) = same m after k
attach_keeps m mi target calls answer after (WasAttached e seg f c a k) =
    slot_other m after m.cache mi (Some (attached e seg ∷ [])) k

-- a detach sets a slot or nothing
detach_keeps : (m : Member) (slot : ℕ) (calls : List Call) (answer : Result Freed Refusal)
    (after : Member) → Detaches m slot calls answer after → Keeps m after
detach_keeps m slot calls answer after (NotDetachable cause f c a k) = same m after k
detach_keeps m slot calls answer after (WasDetached e base f left done h a k) =
    slot_other m after left slot (Some (fresh_seg m.limits e ∷ [])) k

-- a clone fills a slot or nothing
clone_keeps : (m : Member) (source : ℕ) (calls : List Call) (answer : Result ℕ Refusal)
    (after : Member) → Clones m source calls answer after → Keeps m after
clone_keeps m source calls answer after (NotClonable cause f c a k) = same m after k
clone_keeps m source calls answer after (WasGivenUp segs slot f cause left h a k) = other m after left m.table refl k
clone_keeps m source calls answer after (WasCloned segs slot f new left h a k) =
    slot_other m after left slot (Some new) k

-- an offer empties a slot or nothing
offer_keeps : (m : Member) (slot desk : ℕ) (calls : List Call) (answer : Result (Unit {0}) Refusal)
    (after : Member) → Offers m slot desk calls answer after → Keeps m after
offer_keeps m slot desk calls answer after (NothingThere f c a k) = same m after k
offer_keeps m slot desk calls answer after (NotOffered segs f cause c a k) = same m after k
offer_keeps m slot desk calls answer after (WasOffered segs f c a k) = slot_other m after m.cache slot None k

-- a take fills a slot or nothing
take_keeps : (m : Member) (desk : ℕ) (calls : List Call) (answer : Result ℕ Refusal)
    (after : Member) → Takes m desk calls answer after → Keeps m after
take_keeps m desk calls answer after (NoDesk h c a k) = same m after k
take_keeps m desk calls answer after (NoSlot h f c a k) = same m after k
take_keeps m desk calls answer after (NotTaken h slot f cause c a k) = same m after k
take_keeps m desk calls answer after (WasTaken h slot f segs c a k) = slot_other m after m.cache slot (Some segs) k

-- Each act is one of these, or changes nothing but the cache.
act_keeps : (a : Act) (m : Member) (calls : List Call) (r : Reply) (after : Member) →
    Performs a m calls r after → Keeps m after
act_keeps act.Alloc m calls r after h = alloc_keeps m calls h.0 after h.1
act_keeps (act.AllocBulk n) m calls r after h = bulk_keeps m n calls h.0 after h.1
act_keeps (act.Free p) m calls r after h = free_keeps m p calls h.0 after h.1
act_keeps (act.Append p n) m calls r after h = resize_keeps (appended n) NoRoom m p h.0 after h.1
act_keeps (act.Prepend p n) m calls r after h = resize_keeps (prepended n) NoRoom m p h.0 after h.1
act_keeps (act.Adj p n) m calls r after h = resize_keeps (adjusted n) TooShort m p h.0 after h.1
act_keeps (act.Trim p n) m calls r after h = resize_keeps (trimmed n) TooShort m p h.0 after h.1
act_keeps (act.Chain head tail) m calls r after h = chain_keeps m head tail h.0 after h.1
act_keeps (act.Attach mi target) m calls r after h = attach_keeps m mi target calls h.0 after h.1
act_keeps (act.Detach p) m calls r after h = detach_keeps m p calls h.0 after h.1
act_keeps (act.ClonePacket p) m calls r after h = clone_keeps m p calls h.0 after h.1
act_keeps (act.Offer p desk) m calls r after h = offer_keeps m p desk calls h.0 after h.1
act_keeps (act.Take desk) m calls r after h = take_keeps m desk calls h.0 after h.1
act_keeps (act.CountOf p) m calls r after h = same m after h.2
act_keeps (act.PktLen p) m calls r after h = same m after h.0
act_keeps (act.NbSegs p) m calls r after h = same m after h.0
act_keeps act.Flush m calls r after h = other m after after.cache m.table refl h.2

-- whatever a worker of this many slots does, it stays the same one
pub performs_keeps : (a : Act) (m : Member) (calls : List Call) (r : Reply) (after : Member) →
    Performs a m calls r after → length m.table ≡ slots → KeepsMember m after
performs_keeps a m calls r after h wide =
    let k = act_keeps a m calls r after h in
    record { limits = k.limits; number = k.number; table = k.table ∙ wide }
