use Rattle.std.proofs.Common.{arith}
use Rattle.mbufpool_c.proofs.CloseLemmas.{all_empty}
use Rattle.mbufpool_c.proofs.closing.leave_all.Goals as goal

-- each handle was passed
pub returns-clause-left : goal.returns-clause-left
returns-clause-left c =
    all_empty c.loop-k.handles (λ j d low.
    c.loop-k.invariant.left j d (omega (arith, low, c.loop-k-test.false, c.loop-k.auto.handles)))
