use Rattle.step_core.proofs.ElemLemmas.{last_is}
use Rattle.step_core.proofs.view.is_last.Goals as goal

-- the last of the list is compared
pub returns-in-Some : goal.returns-in-Some
returns-in-Some c =
    last_is c.args.items.now c.in-Some.last.now c.args.element c.in-Some.ensures.item.3.0
    (c.in-Some.ensures.item.3.1 0)
