use Rattle.std.proofs.Common.{arith}
use Rattle.mbuf.proofs.EndLemmas.{both_ended, ended_within, one_ended}
use Rattle.mbuf.proofs.steps.end_seg.Goals as goal

-- A direct segment has one hold, that of its own element.
pub returns-in-None : goal.returns-in-None
returns-in-None g c =
    let one = c.end_hold.ensures in
    rw c.in-None.is (ended_within _ (omega (arith, one.back)) (one_ended one))

-- An indirect segment has two holds: its base's ended first, then its own.
pub returns-in-Some : goal.returns-in-Some
returns-in-Some g c =
    let base = c.end_hold-so_far.ensures in
    let own = c.end_hold-in-Some.ensures in
    rw c.in-Some.is
    (ended_within _ (omega (arith, base.back, own.back)) (both_ended (one_ended base) (one_ended own)))
