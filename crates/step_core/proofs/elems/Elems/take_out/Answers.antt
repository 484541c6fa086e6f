use Rattle.std.proofs.Common.{◌≡◌, ◌<◌, ◌∙◌, List, ℕ, refl, sym, ap, arith, length, remove}
use Rattle.step_core.specs.Bags.{without}
use Rattle.step_core.proofs.ElemLemmas.{none_so_far, take_none, without_at, without_none, read_same, none_in_all}
use Rattle.step_core.proofs.elems.Elems.take_out.Goals as goal

pub loop-i-init : goal.loop-i-init
loop-i-init c = record { same = refl; none = take_none c.self.inside.items.items c.args.element }

-- the first that is the element goes
pub returns-then-index-element : goal.returns-then-index-element
returns-then-index-element c =
    let items : c.loop-i.self-inside.items.items ≡ c.self.inside.items.items = cc (c.loop-i.invariant.same) in
    let inside : c.loop-i.i < length c.self.inside.items.items = omega (arith, c.self.inside.items.ok) in
    c.remove.ensures.items ∙ ap (λ (xs : List ℕ). remove xs c.loop-i.i) items
    ∙ without_at c.self.inside.items.items c.loop-i.i c.args.element inside c.loop-i.invariant.none
    (read_same _ _ c.loop-i.i _ items inside c.index.ensures ∙ c.if-index-element.true)
    ∙ ap (without c.args.element) c.self.view_is

-- the next element isn't the one to be taken out, and the list is as it was
pub loop-i-preserved : goal.loop-i-preserved
loop-i-preserved c =
    let items : c.loop-i.self-inside.items.items ≡ c.self.inside.items.items = cc (c.loop-i.invariant.same) in
    let inside : c.loop-i.i < length c.self.inside.items.items = omega (arith, c.self.inside.items.ok) in
    record {
      same = c.loop-i.invariant.same;
      none =
          none_so_far c.self.inside.items.items c.loop-i.i c.args.element inside
          c.loop-i.invariant.none
          (λ e. c.if-index-element.false (sym (read_same _ _ c.loop-i.i _ items inside c.index.ensures) ∙ e));
    }

-- the element stands nowhere, and nothing is taken out
pub returns : goal.returns
returns c =
    let items : c.loop-i.self-inside.items.items ≡ c.self.inside.items.items = cc (c.loop-i.invariant.same) in
    items ∙ sym (without_none c.self.inside.items.items c.args.element (none_in_all
    c.self.inside.items.items c.loop-i.i c.args.element
    (omega (arith, c.self.inside.items.ok)) c.loop-i.invariant.none))
    ∙ ap (without c.args.element) c.self.view_is
