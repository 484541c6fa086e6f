use Rattle.std.proofs.Common.{◌∙◌, refl}
use Rattle.step_core.proofs.ElemLemmas.{minus_nothing, minus_suc}
use Rattle.step_core.proofs.elems.Elems.take_all_out.Goals as goal

pub loop-element-init : goal.loop-element-init
loop-element-init c = minus_nothing c.args.self.now c.args.elements.now

-- one element more is out
pub loop-element-preserved : goal.loop-element-preserved
loop-element-preserved c =
    c.take_out.ensures ∙ minus_suc c.args.self.now c.args.elements.now c.loop-element.self
    c.loop-element.element-index _ c.loop-element-test.true refl c.loop-element.invariant
