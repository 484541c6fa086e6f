use Rattle.std.proofs.Common.{◌++◌, ◌∷◌, [], ℕ, ap, ◌∙◌, arith}
use Rattle.step_core.proofs.OpeningLaw.{length-links_up}
use Rattle.step_core.proofs.LinksUp.{next_inner, next_last, take_whole}
use Rattle.step_core.proofs.opening.links_up.Goals.{then-i-count, else-i-count}
use Rattle.step_core.proofs.opening.links_up.Goals as goal

pub returns : goal.returns
returns c = c.loop-i.invariant ∙ take_whole _ c.loop-i.i (let a = length-links_up 0 c.args.count in omega arith)

-- one link more: to the next element, or to the end
pub loop-i-preserved : goal.loop-i-preserved
loop-i-preserved c = c.in_ok-push.ensures.items ∙ elim c.if-i-count.branch [
  | then-i-count w ↦
      ap (λ (x : ℕ). c.loop-i.links.items ++ x ∷ []) w.link-is
      ∙ next_inner c.args.count c.loop-i.i c.loop-i.links.items w.if-i-count.true
      c.loop-i.invariant
  | else-i-count w ↦
      ap (λ (x : ℕ). c.loop-i.links.items ++ x ∷ []) w.link-is
      ∙ next_last c.args.count c.loop-i.i c.loop-i.links.items c.loop-i-test.true
      w.if-i-count.false c.loop-i.invariant
]
