use Rattle.std.proofs.Common.{◌==◌, ◌≤◌, List, length, drop, get_or, Some, None, refl, sym, ap, ◌∙◌}
use Rattle.std.proofs.lemmas.Bool.{ne_eqb}
use Rattle.commons.specs.declared.packet.Seg.{Seg}
use Rattle.mbuf.specs.inside.Kept.{member_of}
use Rattle.mbuf.specs.Sharing.{first_seg}
use Rattle.mbuf.proofs.PlaceLemmas.{lent}
use Rattle.mbuf.proofs.SharingLemmas.{several_segs, one_seg, begins, single_seg}
use Rattle.mbuf.proofs.packets.Packets.pair.Goals as goal

-- Packets stand in both slots, which differ, and the first has several segments.
pub returns-then-segs-gt1-clause-pair : goal.returns-then-segs-gt1-clause-pair
returns-then-segs-gt1-clause-pair c =
    let p = c.self.inside in
    let slot = c.in-Some.slot in
    let other = c.in-Some-slot.other in
    let segs = c.segs-segs.result.now in
    let at = rw (sym c.self.view_is) at c.in-Some.ensures in
    let to = rw (sym c.self.view_is) at c.in-Some-slot.ensures in
    let stood =
    lent p slot c.args.mi segs c.index.result.now c.self.invariant at c.segs-segs.ensures.segs
    c.index.ensures in
    let target = c.segs.result.now in
    let beside =
    lent p other c.args.target target c.index-2.result.now c.self.invariant to
    c.segs.ensures.segs c.index-2.ensures in
    let in_slot = get_or (member_of p).table slot None in
    let in_other = get_or (member_of p).table other None in
    rw (sym c.self.view_is, sym at.0, sym to.0) (sym (several_segs in_slot in_other (slot == other)
    segs target stood.there beside.there (ne_eqb slot other c.if-slot-other.false)
    c.if-segs-gt1.true))

-- The packet to attach has one segment, which has a base, so it isn't direct.
pub returns-in-Some-base-clause-pair : goal.returns-in-Some-base-clause-pair
returns-in-Some-base-clause-pair c =
    let p = c.self.inside in
    let slot = c.in-Some.slot in
    let other = c.in-Some-slot.other in
    let segs = c.segs-segs.result.now in
    let at = rw (sym c.self.view_is) at c.in-Some.ensures in
    let to = rw (sym c.self.view_is) at c.in-Some-slot.ensures in
    let stood =
    lent p slot c.args.mi segs c.index.result.now c.self.invariant at c.segs-segs.ensures.segs
    c.index.ensures in
    let target = c.segs.result.now in
    let beside =
    lent p other c.args.target target c.index-2.result.now c.self.invariant to
    c.segs.ensures.segs c.index-2.ensures in
    let in_slot = get_or (member_of p).table slot None in
    let in_other = get_or (member_of p).table other None in
    let some : 1 ≤ length segs = rw c.segs-segs.ensures.segs c.segs-segs.ensures.packet.some in
    let some_other : 1 ≤ length target = rw c.segs.ensures.segs c.segs.ensures.packet.some in
    rw (sym c.self.view_is, sym at.0, sym to.0)
    (sym (one_seg in_slot in_other (slot == other) segs target (Some c.in-Some-base.field-0)
    stood.there
    beside.there (ne_eqb slot other c.if-slot-other.false) some c.if-segs-gt1.false some_other
    c.in-Some-base.is))

-- The packet to attach has one segment with no base, and the other's first one is the target.
pub returns-in-None-clause-pair : goal.returns-in-None-clause-pair
returns-in-None-clause-pair c =
    let p = c.self.inside in
    let slot = c.in-Some.slot in
    let other = c.in-Some-slot.other in
    let segs = c.segs-segs.result.now in
    let at = rw (sym c.self.view_is) at c.in-Some.ensures in
    let to = rw (sym c.self.view_is) at c.in-Some-slot.ensures in
    let stood =
    lent p slot c.args.mi segs c.index.result.now c.self.invariant at c.segs-segs.ensures.segs
    c.index.ensures in
    let target = c.segs.result.now in
    let beside =
    lent p other c.args.target target c.index-2.result.now c.self.invariant to
    c.segs.ensures.segs c.index-2.ensures in
    let in_slot = get_or (member_of p).table slot None in
    let in_other = get_or (member_of p).table other None in
    let some : 1 ≤ length segs = rw c.segs-segs.ensures.segs c.segs-segs.ensures.packet.some in
    let some_other : 1 ≤ length target = rw c.segs.ensures.segs c.segs.ensures.packet.some in
    rw (sym c.self.view_is, sym at.0, sym to.0) (sym (one_seg in_slot in_other (slot == other) segs
    target None stood.there beside.there (ne_eqb slot other c.if-slot-other.false) some
    c.if-segs-gt1.false some_other c.in-None.is))

-- What is lent from the two slots stands there: one direct segment, and a packet that begins so.
pub returns-in-None-clause-are : goal.returns-in-None-clause-are
returns-in-None-clause-are c =
    let p = c.self.inside in
    let slot = c.in-Some.slot in
    let other = c.in-Some-slot.other in
    let segs = c.segs-segs.result.now in
    let at = rw (sym c.self.view_is) at c.in-Some.ensures in
    let to = rw (sym c.self.view_is) at c.in-Some-slot.ensures in
    let stood =
    lent p slot c.args.mi segs c.index.result.now c.self.invariant at c.segs-segs.ensures.segs
    c.index.ensures in
    let target = c.segs.result.now in
    let beside =
    lent p other c.args.target target c.index-2.result.now c.self.invariant to
    c.segs.ensures.segs c.index-2.ensures in
    let some : 1 ≤ length segs = rw c.segs-segs.ensures.segs c.segs-segs.ensures.packet.some in
    let some_other : 1 ≤ length target = rw c.segs.ensures.segs c.segs.ensures.packet.some in
    rw (sym c.self.view_is, sym at.0, sym to.0) (record {
      own = first_seg segs;
      others = drop 1 target;
      here = stood.there ∙ ap (λ (s : List Seg). Some s) (single_seg segs some c.if-segs-gt1.false);
      elem = refl;
      direct = c.in-None.is;
      there = beside.there ∙ ap (λ (s : List Seg). Some s) (begins target some_other);
      within = at.1;
    })
