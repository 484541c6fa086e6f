use Rattle.std.proofs.Common.{◌≡◌, ◌∙◌, List, ℕ, sym, ap}
use Rattle.step_core.specs.Bags.{has}
use Rattle.step_core.proofs.ElemLemmas.{has_at, none_so_far, take_none}
use Rattle.step_core.proofs.elems.Elems.find.Goals as goal

-- nothing was searched yet
pub loop-element-init : goal.loop-element-init
loop-element-init c = take_none c.as_slice-element-items.result.now c.args.number

-- the element found is the number, and stands there
pub returns-then-from-number : goal.returns-then-from-number
returns-then-from-number c =
    let items : c.as_slice-element-items.result.now ≡ c.args.self.now =
    c.as_slice-element-items.ensures.value ∙ c.self.view_is in
    let here = sym c.from.ensures ∙ c.if-from-number.true in (
      here,
      ap (λ (xs : List ℕ). has xs c.args.number) (sym items)
          ∙ has_at _ c.loop-element.element-index c.args.number c.loop-element-test.true here,
    )

-- the next element isn't this number either
pub loop-element-preserved : goal.loop-element-preserved
loop-element-preserved c =
    none_so_far c.as_slice-element-items.result.now c.loop-element.element-index c.args.number
    c.loop-element-test.true c.loop-element.invariant
    (λ e. c.if-from-number.false (c.from.ensures ∙ e))
