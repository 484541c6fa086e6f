-- What was made is there to be told of.
use Rattle.std.proofs.Common.{◌≡◌, ℕ, List, [], ◌∷◌, length, get_or, get_or-set_same, take, Option, Some, None, Ok, refl, sym, ap, ◌∙◌, subst, All, arith}
use Rattle.std.specs.Prelude.{IsSome}
use Rattle.std.proofs.lemmas.List.{length-take}
use Rattle.arrayvec.specs.ArrayVec.{ArrayVec}
use Rattle.commons.proofs.Sames.{ok-is}
use Rattle.commons.specs.Calls.{Call}
use Rattle.commons.specs.declared.packet.Seg.{Seg}
use Rattle.mbuf.specs.Acts.{HasRoom, Reply, as_reply}
use Rattle.mbuf.specs.declared.acts.Act.{Act}
use Rattle.mbuf.specs.declared.acts.Act.TheVariants as act
use Rattle.mbuf.specs.declared.acts.Answer.TheVariants as reply
use Rattle.mbuf.specs.Members.{Member}
use Rattle.mbuf.specs.PacketRules.{Allocs, Full, NotGot, Fresh, AllocsBulk, TooFull, BulkNotGot, FreshBulk, fresh_seg, free_slots}
use Rattle.mbuf.specs.Desks.{Takes, NoDesk, NoSlot, NotTaken, WasTaken}
use Rattle.mbuf.specs.Sharing.{clonable}
use Rattle.mbuf.proofs.FreeLemmas.{stood_there}
use Rattle.mbuf.proofs.OwnLemmas.{free_slot-is}

-- a slot that shows a packet shows something
some_there : (slot : Option (List Seg)) (segs : List Seg) → slot ≡ Some segs → IsSome slot
some_there slot segs e = subst (λ (o : Option (List Seg)). IsSome o) (sym e) refl

-- the slot of a clone is free
pub clonable_free : (source : Option (List Seg)) (free : Option ℕ) (segs : List Seg) (slot : ℕ) →
    clonable source free ≡ Ok (segs, slot) → free ≡ Some slot
clonable_free None free segs slot e = absurd cc
clonable_free (Some x) None segs slot e = absurd cc
clonable_free (Some x) (Some s) segs slot e = ap (λ (p : List Seg × ℕ). Some p.1) (ok-is (x, s) (segs, slot) e)

-- an alloc fills the slot that it answers
pub allocated_there : (m after : Member) (calls : List Call) (slot : ℕ) →
    Allocs m calls (Ok slot) after → IsSome (get_or after.table slot None)
allocated_there m after calls slot (Full f c a k) = absurd cc
allocated_there m after calls slot (NotGot s f cause g a k) = absurd cc
allocated_there m after calls slot (Fresh s e f got left g c a k) =
    let same : slot ≡ s = cc in
    some_there (get_or after.table slot None) (fresh_seg m.limits e ∷ [])
    (ap (λ (x : Member). get_or x.table slot None) k
    ∙ rw same (get_or-set_same m.table s (Some (fresh_seg m.limits e ∷ [])) None
    (free_slot-is m.table s f).0))

-- a bulk fills each slot that it answers
pub bulk_there : (m after : Member) (n : ℕ) (calls : List Call) (slots : List ℕ) →
    AllocsBulk m n calls (Ok slots) after →
    All (λ slot. IsSome (get_or after.table slot None)) slots
bulk_there m after n calls slots (TooFull f c a k) = absurd cc
bulk_there m after n calls slots (BulkNotGot f cause g a k) = absurd cc
bulk_there m after n calls slots (FreshBulk es long room got left g c a k) =
    let same : slots ≡ take n (free_slots m.table) = cc in
    λ j d within. some_there (get_or after.table (get_or slots j d) None) (fresh_seg m.limits (get_or es j 0) ∷ [])
    (ap (λ (x : Member). get_or x.table (get_or slots j d) None) k
    ∙ rw (same, ← long) (stood_there m.limits es m.table (omega (arith, long, room)) j d
    (omega (arith, within, long, room, length-take n (free_slots m.table), ap (λ (s : List ℕ). length s) same))))

-- a list in place is what it shows
pub list_is : {A : Type 0} (list : ArrayVec A) (items : List A) → list.items ≡ items → list ≡ record { items = items }
list_is list items e = rw (← e) refl

-- a packet that was taken is there
pub taken_there : (m after : Member) (desk : ℕ) (calls : List Call) (slot : ℕ) →
    Takes m desk calls (Ok slot) after → IsSome (get_or after.table slot None)
taken_there m after desk calls slot (NoDesk h c a k) = absurd cc
taken_there m after desk calls slot (NoSlot h f c a k) = absurd cc
taken_there m after desk calls slot (NotTaken h s f cause c a k) = absurd cc
taken_there m after desk calls slot (WasTaken h s f segs c a k) =
    let same : slot ≡ s = cc in
    some_there (get_or after.table slot None) segs (ap (λ (x : Member). get_or x.table slot None) k
    ∙ rw same (get_or-set_same m.table s (Some segs) None (free_slot-is m.table s f).0))

-- an answer with room for any bulk is what it is as one
pub as_reply-same : (r : Reply) → as_reply r ≡ r
as_reply-same (reply.Allocated slot elem) = refl
as_reply-same (reply.Bulk packets) = refl
as_reply-same (reply.Freed done) = refl
as_reply-same reply.Attached = refl
as_reply-same (reply.Cloned slot elems) = refl
as_reply-same reply.Offered = refl
as_reply-same (reply.Taken slot segs len) = refl
as_reply-same (reply.Count count) = refl
as_reply-same (reply.Len len) = refl
as_reply-same (reply.Segs segs) = refl
as_reply-same (reply.Chained segs len) = refl
as_reply-same (reply.Put put) = refl
as_reply-same (reply.Refused cause) = refl

-- there is room for any act
pub any_room : (a : Act) → HasRoom 256 a
any_room act.Alloc = tt
any_room (act.AllocBulk n) = λ few. few
any_room (act.Free p) = tt
any_room (act.Append p n) = tt
any_room (act.Prepend p n) = tt
any_room (act.Adj p n) = tt
any_room (act.Trim p n) = tt
any_room (act.Chain head tail) = tt
any_room (act.Attach mi target) = tt
any_room (act.Detach p) = tt
any_room (act.ClonePacket p) = tt
any_room (act.Offer p desk) = tt
any_room (act.Take desk) = tt
any_room (act.CountOf p) = tt
any_room (act.PktLen p) = tt
any_room (act.NbSegs p) = tt
any_room act.Flush = tt
