use Rattle.std.proofs.Common.{[], ◌∷◌, refl, arith}
use Rattle.mbuf.specs.Sharing.{first_seg}
use Rattle.mbuf.proofs.SharingLemmas.{in_slot_held, first_held}
use Rattle.mbuf.proofs.packets.Packets.count_of.Goals as goal

-- The packet's first segment's own element is among what the packet holds, so its worker holds it.
pub count-requires : goal.count-requires
count-requires g c =
    let now = c.args.c.now in
    let segs = c.in-Some.packet.now in
    let e = (first_seg segs).elem in
    rw c.segs.ensures.segs
    (omega (
      arith,
      first_held segs c.segs.ensures.packet.some,
      in_slot_held c.requires.own.0 c.args.self.now (g.C.Commons.side now) c.args.p segs e c.requires.own.1
          c.in-Some.ensures,
    ))

-- The one call is a count of the first segment's own element, and what it read is the answer.
pub returns-in-Some-clause-calls : goal.returns-in-Some-clause-calls
returns-in-Some-clause-calls g c =
    let did = rw c.segs.ensures.segs at c.count.ensures.did in
    rw c.in-Some.ensures (
      record { call = _; readings = did.readings } ∷ [],
      (c.count.new.self, did.step, refl),
      (c.count.result, refl, refl),
    )
