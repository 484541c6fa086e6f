use Rattle.std.proofs.Common.{◌∙◌}
use Rattle.step_core.proofs.ElemLemmas.{minus_owns, minus_none}
use Rattle.step_core.proofs.elems.Elems.take_own_out.Goals as goal

pub loop-i-init : goal.loop-i-init
loop-i-init c = minus_none c.args.self.now

-- the own element of one segment more is out
pub loop-i-preserved : goal.loop-i-preserved
loop-i-preserved c =
    c.take_out.ensures ∙ minus_owns c.args.self.now c.loop-i.self c.segs-segs.result.now
    c.loop-i.i _ c.loop-i-test.true c.loop-i.invariant
