use Rattle.std.proofs.Common.{[], ◌∷◌, refl, arith}
use Rattle.mbuf.specs.Sharing.{first_seg}
use Rattle.mbuf.proofs.ForeignLemmas.{first_own, own_in_slot_held}
use Rattle.mbuf.proofs.packets.Packets.count_foreign.Goals as goal

-- The clone's first segment's own element is among its own elements, which its worker holds.
pub count-requires : goal.count-requires
count-requires g c =
    let now = c.args.d.now in
    let segs = c.in-Some.packet.now in
    let e = (first_seg segs).elem in
    rw c.segs.ensures.segs
    (omega (
      arith,
      first_own segs c.segs.ensures.packet.some,
      own_in_slot_held c.args.self.now (g.D.Commons.side now) c.args.p segs e c.requires.own c.in-Some.ensures,
    ))

-- The one call is a count of the first segment's own element, and what it read is the answer.
pub returns-in-Some-clause-calls : goal.returns-in-Some-clause-calls
returns-in-Some-clause-calls g c =
    let did = rw c.segs.ensures.segs at c.count.ensures.did in
    rw c.in-Some.ensures (
      record { call = _; readings = did.readings } ∷ [],
      (c.count.new.self, did.step, refl),
      (c.count.result, refl, refl),
    )
