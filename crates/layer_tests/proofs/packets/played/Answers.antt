use Rattle.std.proofs.Common.{◌∙◌, ◌-◌, arith}
use Rattle.commons.proofs.Opening.{nothing_held, nothing_in_hand}
use Rattle.layer_tests.proofs.packets.played.Goals as goal

-- in a new pool nobody has anything
pub loop-index-init : goal.loop-index-init
loop-index-init g c =
    let l = c.args.limits.now in
    record {
      hands = λ w i e. rw c.in_ok-site.ensures.ok (nothing_in_hand l.population w i);
      holds = λ w i e. rw c.in_ok-site.ensures.ok (nothing_held l.workers l.population (w - 1) i);
    }

-- a worker's turn leaves what the others have
pub loop-index-preserved : goal.loop-index-preserved
loop-index-preserved g c =
    let inv = c.loop-index.invariant in
    let others = c.turn.ensures.sides.others in
    record {
      hands =
          λ w i e.
          (others w (omega (arith, e)) (λ same. omega (arith, same, e))).hand i
          ∙ inv.hands w i (omega (arith, e));
      holds =
          λ w i e.
          (others w (omega (arith, e)) (λ same. omega (arith, same, e))).holds i
          ∙ inv.holds w i (omega (arith, e));
    }
