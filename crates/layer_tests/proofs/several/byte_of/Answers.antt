use Rattle.std.proofs.Common.{◌<◌, inl, inr, arith}
use Rattle.std.proofs.lemmas.Bool.{cases_lt}
use Rattle.mbuf.specs.Own.{no_guests}
use Rattle.mbuf.specs.Sharing.{first_seg}
use Rattle.mbuf.proofs.SharingLemmas.{in_slot_held, first_held}
use Rattle.layer_tests.proofs.several.byte_of.Goals as goal

-- the element is held, and nothing from the population on is
pub bounds-buffers-segs : goal.bounds-buffers-segs
bounds-buffers-segs g c =
    let side = g.C.Commons.side c.args.c.now in
    let segs = c.in-Some.packet.now in
    let e = (first_seg segs).elem in
    let held : 0 < side.holds e =
    omega (
      arith,
      first_held segs c.segs.ensures.packet.some,
      in_slot_held no_guests c.args.packets.now side c.args.p segs e c.requires.own c.in-Some.ensures,
    )
    in
    let within : e < side.limits.population = elim (cases_lt e side.limits.population) [
      | inl b ↦ b
      | inr b ↦ absurd (omega (arith, held, g.met.C.Commons.holds_below c.args.c.now e b))
    ] in
    rw c.segs.ensures.segs (omega (arith, within, c.requires.long))
