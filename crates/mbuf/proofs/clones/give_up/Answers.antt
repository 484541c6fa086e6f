use Rattle.std.proofs.Common.{[], ◌∷◌, arith}
use Rattle.std.proofs.lemmas.List.{append-nil}
use Rattle.commons.proofs.Bags.{bag-append, bag-single, one-same}
use Rattle.commons.specs.Packets.{hold_of, holds_of_packet}
use Rattle.mbuf.proofs.EndLemmas.{both_ended, ended_within, one_ended}
use Rattle.mbuf.proofs.clones.give_up.Goals as goal

-- The holds of the clones are among all that is given up.
pub end_segs-freed-requires-clause-held : goal.end_segs-freed-requires-clause-held
end_segs-freed-requires-clause-held g c =
    λ i.
    omega (
      arith,
      c.requires.held i,
      bag-append (holds_of_packet c.args.segs.now) (hold_of c.args.over) i,
    )

-- The element that is left over is held still, once the holds of the clones have ended.
pub end_hold-requires-clause-held : goal.end_hold-requires-clause-held
end_hold-requires-clause-held g c =
    let e = c.in-Some.elem in
    let both = rw c.in-Some.is at (c.requires.held e) in
    omega (
      arith,
      both,
      bag-append (holds_of_packet c.args.segs.now) (e ∷ []) e,
      c.end_segs-freed.ensures.lost.holds e,
      bag-single e e,
      one-same e,
    )

-- No element is left over, and the holds of the clones ended in order.
pub returns-in-None : goal.returns-in-None
returns-in-None g c =
    let clones = c.end_segs-freed.ensures in
    rw (c.in-None.is, append-nil (holds_of_packet c.args.segs.now)) (ended_within _ (omega (arith, clones.back, c.requires.few)) clones)

-- The holds of the clones ended in order, and then that of the element that is left over.
pub returns-in-Some : goal.returns-in-Some
returns-in-Some g c =
    let clones = c.end_segs-freed.ensures in
    let over = c.end_hold.ensures in
    rw c.in-Some.is (ended_within _ (omega (arith, clones.back, over.back, c.requires.few)) (both_ended clones (one_ended over)))
