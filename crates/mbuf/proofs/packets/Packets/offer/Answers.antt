use Rattle.std.proofs.Common.{ℕ, [], ◌∷◌, set, Option, List, Ok, Err, refl, sym, ap, subst, arith}
use Rattle.commons.specs.Bag.{bag}
use Rattle.commons.specs.Calls.{Offer, Side}
use Rattle.commons.specs.Packets.{own_in_slot}
use Rattle.commons.specs.declared.packet.Seg.{Seg}
use Rattle.commons.proofs.Leading.{Leads-one, made_by}
use Rattle.commons.proofs.PacketBags.{own_in-slot}
use Rattle.mbuf.specs.Desks.{NotOffered, WasOffered}
use Rattle.mbuf.specs.inside.Kept.{member_of}
use Rattle.mbuf.specs.Members.{Member}
use Rattle.mbuf.specs.Own.{OwnWith, no_guests}
use Rattle.mbuf.proofs.DeskLemmas.{own_offered}
use Rattle.mbuf.proofs.PlaceLemmas.{alike, emptied, lent, returned, standing}
use Rattle.mbuf.proofs.SharingLemmas.{in_slot_held}
use Rattle.mbuf.proofs.TableLemmas.{taken_slot, length-shown}
use Rattle.mbuf.proofs.packets.Packets.offer.Goals as goal

-- What is held by the packet that stands in the slot is held by its worker.
pub offer-requires-clause-held : goal.offer-requires-clause-held
offer-requires-clause-held g c = λ i.
    let p = c.self.inside in
    let slot = c.in-Some.place in
    let segs = c.take-packet.result in
    let at = rw (sym c.self.view_is) at c.in-Some.ensures in
    let stood =
    lent p slot c.args.p segs c.index_mut.result.now c.self.invariant at
    c.take-packet.ensures.out c.index_mut.ensures.value in
    let own = rw (sym c.self.view_is) at c.requires.own.1 in
    in_slot_held c.requires.own.0 (member_of p) (g.C.Commons.side c.args.c.now) slot segs i own stood.there

-- The packet's own elements are among those of the table, which are headers of the worker.
pub offer-requires-clause-own : goal.offer-requires-clause-own
offer-requires-clause-own g c = λ i.
    let p = c.self.inside in
    let slot = c.in-Some.place in
    let segs = c.take-packet.result in
    let at = rw (sym c.self.view_is) at c.in-Some.ensures in
    let stood =
    lent p slot c.args.p segs c.index_mut.result.now c.self.invariant at
    c.take-packet.ensures.out c.index_mut.ensures.value in
    let own = rw (sym c.self.view_is) at c.requires.own.1 in
    let long = length-shown p.free p.packets.items (alike p c.self.invariant) in
    omega (
      arith,
      own.headed i,
      own_in-slot (member_of p).table slot i (omega (arith, stood.within, long)),
      ap (λ (o : Option (List Seg)). bag (own_in_slot o) i) stood.there,
    )

-- A packet stood in the slot, so the slot isn't free.
pub give-requires-clause-taken : goal.give-requires-clause-taken
give-requires-clause-taken g c =
    let p = c.self.inside in
    let at = rw (sym c.self.view_is) at c.in-Some.ensures in
    let src = standing p c.in-Some.place c.args.p c.self.invariant at in
    taken_slot p.free p.packets.items c.in-Some.place src.within (alike p c.self.invariant)
    (rw (sym at.0) at at.2)

-- The one call took the packet that stood in the slot, which shows nothing once it is given back;
-- its holds and headers left the worker with it.
pub returns-in-Ok : goal.returns-in-Ok
returns-in-Ok g c =
    let p = c.self.inside in
    let slot = c.in-Some.place in
    let segs = c.take-packet.result in
    let at = rw (sym c.self.view_is) at c.in-Some.ensures in
    let stood =
    lent p slot c.args.p segs c.index_mut.result.now c.self.invariant at
    c.take-packet.ensures.out c.index_mut.ensures.value in
    let between = c.take-packet.new.self in
    let is =
    emptied p p.worker c.give.new.self (set p.packets.items slot between) slot between
    c.self.invariant (record { limits = refl; number = refl }) c.give.ensures refl in
    let did = c.in-Ok.ensures in
    let call = Offer c.args.desk segs (Ok tt) in
    let side = g.C.Commons.side in
    let last = c.offer.new.self in
    let long = length-shown p.free p.packets.items (alike p c.self.invariant) in
    let stays =
    λ (guests : ℕ → ℕ) (owned : OwnWith guests c.args.self.now (side c.args.c.now)).
    subst (λ (m : Member). OwnWith guests m (side last)) (sym is)
    (own_offered guests (member_of p) (side c.args.c.now) (side last) slot segs (rw (sym c.self.view_is) at owned)
    (omega (arith, stood.within, long)) stood.there did.did.step.effect) in
    record {
      calls = rw (sym c.self.view_is, sym at.0) (
        made_by g.C.Commons.did side c.args.c.now call last did.did ∷ [],
        Leads-one g.C.Commons.did side c.args.c.now call last did.did,
        WasOffered segs stood.there refl refl is,
      );
      own = stays no_guests;
      guests = stays;
      refused = tt;
    }

-- The one call was refused, and the packet that it gave back lies in its slot again: table and side
-- are as before.
pub returns-in-Err : goal.returns-in-Err
returns-in-Err g c =
    let p = c.self.inside in
    let slot = c.in-Some.place in
    let segs = c.take-packet.result in
    let at = rw (sym c.self.view_is) at c.in-Some.ensures in
    let stood =
    lent p slot c.args.p segs c.index_mut.result.now c.self.invariant at
    c.take-packet.ensures.out c.index_mut.ensures.value in
    let is =
    returned p slot segs c.take-packet.new.self c.in-Err.packet stood c.in-Err.ensures.kept in
    let did = c.in-Err.ensures in
    let call = Offer c.args.desk segs (Err c.in-Err.cause) in
    let side = g.C.Commons.side in
    let last = c.offer.new.self in
    let stays =
    λ (guests : ℕ → ℕ) (owned : OwnWith guests c.args.self.now (side c.args.c.now)).
    subst (λ (m : Member). OwnWith guests m (side last)) (sym is)
    (subst (λ (s : Side). OwnWith guests (member_of p) s) (sym did.did.step.effect)
    (rw (sym c.self.view_is) at owned)) in
    record {
      calls = rw (sym c.self.view_is, sym at.0) (
        made_by g.C.Commons.did side c.args.c.now call last did.did ∷ [],
        Leads-one g.C.Commons.did side c.args.c.now call last did.did,
        NotOffered segs stood.there c.in-Err.cause refl refl is,
      );
      own = stays no_guests;
      guests = stays;
      refused = (did.did.step.effect, rw (sym c.self.view_is) is);
    }
