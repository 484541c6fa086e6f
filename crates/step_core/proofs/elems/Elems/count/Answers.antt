use Rattle.std.proofs.Common.{refl, sym, ◌∙◌, arith}
use Rattle.step_core.proofs.Bags.{times-nil}
use Rattle.step_core.proofs.ElemLemmas.{count_more, count_same}
use Rattle.step_core.proofs.elems.Elems.count.Goals.{then-element-number, else-element-number}
use Rattle.step_core.proofs.elems.Elems.count.Goals as goal

pub loop-element-init : goal.loop-element-init
loop-element-init c = record { times = sym (times-nil c.args.number); few = omega arith }

-- the next element is counted where it is this number
pub loop-element-preserved : goal.loop-element-preserved
loop-element-preserved c =
    elim c.if-element-number.branch [
      | then-element-number w ↦ record {
        times =
            w.times-is ∙ count_more _ c.loop-element.element-index c.args.number _ _
            c.loop-element-test.true refl c.loop-element.invariant.times w.if-element-number.true;
        few = (let a = w.times-is in let b = c.loop-element.invariant.few in omega arith);
      }
      | else-element-number w ↦ record {
        times =
            w.times-is ∙ count_same _ c.loop-element.element-index c.args.number _ _
            c.loop-element-test.true refl c.loop-element.invariant.times
            w.if-element-number.false;
        few = (let a = w.times-is in let b = c.loop-element.invariant.few in omega arith);
      }
    ]
