use Rattle.std.proofs.Common.{ℕ, [], get_or, refl, sym, subst, arith}
use Rattle.std.proofs.lemmas.List.{set-get_or}
use Rattle.mbuf.specs.inside.Kept.{member_of}
use Rattle.mbuf.specs.Members.{Member}
use Rattle.mbuf.specs.Own.{OwnWith, no_guests}
use Rattle.mbuf.specs.PacketRules.{WasFreed}
use Rattle.mbuf.proofs.OwnLemmas.{own_free}
use Rattle.mbuf.proofs.PlaceLemmas.{alike, emptied, lent, standing}
use Rattle.mbuf.proofs.SharingLemmas.{in_slot_held}
use Rattle.mbuf.proofs.TableLemmas.{taken_slot, length-shown}
use Rattle.mbuf.proofs.packets.Packets.free.Goals as goal

-- What is held by the packet that stands in the slot is held by its worker.
pub end_segs-freed-requires-clause-held : goal.end_segs-freed-requires-clause-held
end_segs-freed-requires-clause-held g c = λ i.
    let p = c.self.inside in
    let slot = c.in-Some.slot in
    let segs = c.segs.result.now in
    let own = rw (sym c.self.view_is) at c.requires.own.1 in
    let at = rw (sym c.self.view_is) at c.in-Some.ensures in
    let stood =
    lent p slot c.args.p segs c.index.result.now c.self.invariant at c.segs.ensures.segs
    c.index.ensures in
    in_slot_held c.requires.own.0 (member_of p) (g.C.Commons.side c.args.c.now) slot segs i own stood.there

-- A packet stands in the slot, so the slot isn't free.
pub give-requires-clause-taken : goal.give-requires-clause-taken
give-requires-clause-taken g c =
    let p = c.self.inside in
    let slot = c.in-Some.slot in
    let at = rw (sym c.self.view_is) at c.in-Some.ensures in
    let src = standing p slot c.args.p c.self.invariant at in
    taken_slot p.free p.packets.items slot src.within (alike p c.self.invariant)
    (rw (sym at.0) at at.2)

-- The packet's holds ended in order, and its slot, once it is given back, shows nothing. The table
-- lost the packet's holds, which are those that the worker lost.
pub returns : goal.returns
returns g c =
    let p = c.self.inside in
    let slot = c.in-Some.slot in
    let segs = c.segs.result.now in
    let w = c.end_segs-freed.new.worker in
    let at = rw (sym c.self.view_is) at c.in-Some.ensures in
    let stood =
    lent p slot c.args.p segs c.index.result.now c.self.invariant at c.segs.ensures.segs
    c.index.ensures in
    let done = c.end_segs-freed.ensures in
    let lost = done.lost in
    let is =
    emptied p w c.give.new.self p.packets.items slot (get_or p.packets.items slot [])
    c.self.invariant lost.number c.give.ensures (sym (set-get_or p.packets.items slot [])) in
    let side = g.C.Commons.side in
    let first = c.args.c.now in
    let last = c.end_segs-freed.new.c in
    let long = length-shown p.free p.packets.items (alike p c.self.invariant) in
    let stays =
    λ (guests : ℕ → ℕ) (owned : OwnWith guests c.args.self.now (side first)).
    subst (λ (m : Member). OwnWith guests m (side last)) (sym is)
    (own_free guests (member_of p) (side first) (side last) w.cache slot segs (rw (sym c.self.view_is) at owned)
    lost.limits (omega (arith, stood.within, long)) stood.there lost.hand lost.holds lost.headers) in
    record {
      calls = rw (sym c.self.view_is, sym at.0) (
        done.calls.0,
        done.calls.1,
        WasFreed segs w.cache c.end_segs-freed.result stood.there done.calls.2 refl is,
      );
      own = stays no_guests;
      guests = stays;
      refused = tt;
    }
