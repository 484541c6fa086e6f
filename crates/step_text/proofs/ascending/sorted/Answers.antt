use Rattle.std.proofs.Common.{◌++◌, ap, ◌∙◌}
use Rattle.step_text.specs.Ascending.{ascending}
use Rattle.step_text.proofs.AscendingLemmas.{sorted-is}
use Rattle.step_text.proofs.ascending.sorted.Goals as goal

-- both lists stand there before the sort
pub returns : goal.returns
returns c =
    sorted-is _ _ c.sort_unstable.ensures.permutation c.sort_unstable.ensures.sorted
    ∙ ap ascending (c.in_ok-extend_from_slice-2.ensures.items
    ∙ ap (λ xs. xs ++ c.args.second.now)
    (c.in_ok-extend_from_slice.ensures.items ∙ ap (λ xs. xs ++ c.args.first.now) c.in_ok-elements.ensures.items))
