use Rattle.std.proofs.Common.{arith}
use Rattle.mbufpool_c.proofs.LabelLemmas.{are_first}
use Rattle.mbufpool_c.proofs.labels.counted.Goals as goal

-- each place was passed
pub returns : goal.returns
returns c =
    are_first c.loop-k.of c.loop-k.invariant.count
    (λ k d low. c.loop-k.invariant.each k d (omega (arith, low, c.loop-k-test.false)))
