use Rattle.std.proofs.Common.{◌∷◌, [], refl}
use Rattle.ground_tests.proofs.Seeing.{may_open}
use Rattle.ground_tests.proofs.desks.open.Goals as goal

-- the packet is in, and what it holds is the player's
pub open-requires-clause-may : goal.open-requires-clause-may
open-requires-clause-may c =
    may_open c.args.desk (c.in-Some.seg ∷ []) c.args.view.now c.args.slot.now c.args.seat.now
    c.requires.same (c.if-not-is_filling.ensures refl) c.in-Some.ensures.0
    (c.if-not-holds_seg.ensures refl) (c.if-not-owns_seg.ensures refl)
