use Rattle.std.proofs.Common.{◌≤◌, List, length, get_or, Some, None, refl, sym, ap, ◌∙◌}
use Rattle.commons.specs.declared.packet.Seg.{Seg}
use Rattle.mbuf.specs.inside.Kept.{member_of}
use Rattle.mbuf.specs.Sharing.{first_seg}
use Rattle.mbuf.proofs.PlaceLemmas.{lent}
use Rattle.mbuf.proofs.SharingLemmas.{several_there, one_there, single_seg}
use Rattle.mbuf.proofs.packets.Packets.indirect.Goals as goal

-- The packet in the slot has several segments.
pub returns-then-segs-gt1-clause-pair : goal.returns-then-segs-gt1-clause-pair
returns-then-segs-gt1-clause-pair c =
    let p = c.self.inside in
    let slot = c.in-Some.slot in
    let segs = c.segs-segs.result.now in
    let at = rw (sym c.self.view_is) at c.in-Some.ensures in
    let stood =
    lent p slot c.args.p segs c.index.result.now c.self.invariant at c.segs-segs.ensures.segs
    c.index.ensures in
    let in_slot = get_or (member_of p).table slot None in
    rw (sym c.self.view_is, sym at.0)
    (sym (several_there in_slot segs stood.there c.if-segs-gt1.true))

-- The packet in the slot has one segment, which has a base.
pub returns-in-Some-base-clause-pair : goal.returns-in-Some-base-clause-pair
returns-in-Some-base-clause-pair c =
    let p = c.self.inside in
    let slot = c.in-Some.slot in
    let segs = c.segs-segs.result.now in
    let at = rw (sym c.self.view_is) at c.in-Some.ensures in
    let stood =
    lent p slot c.args.p segs c.index.result.now c.self.invariant at c.segs-segs.ensures.segs
    c.index.ensures in
    let in_slot = get_or (member_of p).table slot None in
    let some : 1 ≤ length segs = rw c.segs-segs.ensures.segs c.segs-segs.ensures.packet.some in
    rw (sym c.self.view_is, sym at.0) (sym (one_there in_slot segs (Some c.in-Some-base.base)
    stood.there
    some c.if-segs-gt1.false c.in-Some-base.is))

-- The packet in the slot has one segment, whose element and base were answered.
pub returns-in-Some-base-clause-is : goal.returns-in-Some-base-clause-is
returns-in-Some-base-clause-is c =
    let p = c.self.inside in
    let slot = c.in-Some.slot in
    let segs = c.segs-segs.result.now in
    let at = rw (sym c.self.view_is) at c.in-Some.ensures in
    let stood =
    lent p slot c.args.p segs c.index.result.now c.self.invariant at c.segs-segs.ensures.segs
    c.index.ensures in
    let some : 1 ≤ length segs = rw c.segs-segs.ensures.segs c.segs-segs.ensures.packet.some in
    rw (sym c.self.view_is, sym at.0) (record {
      own = first_seg segs;
      here = stood.there ∙ ap (λ (s : List Seg). Some s) (single_seg segs some c.if-segs-gt1.false);
      elem = refl;
      base = c.in-Some-base.is;
      within = at.1;
    })

-- The packet in the slot has one segment, which has no base.
pub returns-in-None-clause-pair : goal.returns-in-None-clause-pair
returns-in-None-clause-pair c =
    let p = c.self.inside in
    let slot = c.in-Some.slot in
    let segs = c.segs-segs.result.now in
    let at = rw (sym c.self.view_is) at c.in-Some.ensures in
    let stood =
    lent p slot c.args.p segs c.index.result.now c.self.invariant at c.segs-segs.ensures.segs
    c.index.ensures in
    let in_slot = get_or (member_of p).table slot None in
    let some : 1 ≤ length segs = rw c.segs-segs.ensures.segs c.segs-segs.ensures.packet.some in
    rw (sym c.self.view_is, sym at.0)
    (sym (one_there in_slot segs None stood.there some c.if-segs-gt1.false c.in-None.is))
