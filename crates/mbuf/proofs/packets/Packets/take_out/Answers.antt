use Rattle.std.proofs.Common.{[], get_or, set, None, refl, sym}
use Rattle.mbuf.specs.Parcels.{WasTakenOut}
use Rattle.mbuf.specs.inside.Kept.{shown}
use Rattle.mbuf.proofs.PlaceLemmas.{alike, standing}
use Rattle.mbuf.proofs.TableLemmas.{member_is, shown-free, taken_slot}
use Rattle.mbuf.proofs.packets.Packets.take_out.Goals as goal

-- A packet stood in the slot, so the slot isn't free.
pub give-requires-clause-taken : goal.give-requires-clause-taken
give-requires-clause-taken c =
    let p = c.self.inside in
    let at = rw (sym c.self.view_is) at c.in-Some.ensures in
    let src = standing p c.in-Some.place c.args.p c.self.invariant at in
    taken_slot p.free p.packets.items c.in-Some.place src.within (alike p c.self.invariant)
    (rw (sym at.0) at at.2)

-- The slot shows nothing once it is given back, though the packet lies there still.
pub returns : goal.returns
returns c =
    let p = c.self.inside in
    let w = p.worker in
    let slot = c.in-Some.place in
    let at = rw (sym c.self.view_is) at c.in-Some.ensures in
    let src = standing p slot c.args.p c.self.invariant at in
    let is =
    member_is w.limits w.limits w.number w.number w.cache (shown c.give.new.self p.packets.items)
    (set (shown p.free p.packets.items) slot None) refl refl
    (rw c.give.ensures (shown-free p.free p.packets.items slot (alike p c.self.invariant))) in
    rw (sym c.self.view_is, sym at.0) (WasTakenOut (get_or p.packets.items slot []) src.there refl is)
