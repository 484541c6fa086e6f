-- Commands act on the pool and do nothing else to it, and after any acts each element is listed
-- once.
use Rattle.std.proofs.Common.{sym, subst}
use Rattle.pool_model.specs.Statements.{ListsEachOnce}
use Rattle.script.specs.Replay.{Stock, settled_of}
use Rattle.script.proofs.CommandsKeep.{end_is_reached}
use Rattle.script.proofs.laws.each_element_is_listed_once.Goals as goal

-- the acts of the lines, one after another on a new pool, lead to the same pool
pub returns : goal.returns
returns c = λ l lines range.
    let reached = end_is_reached l lines in
    subst (λ (s : Stock). ListsEachOnce (settled_of s).first) (sym reached.1)
    (c.acts_leave_each_element_in_one_place.ensures.once l reached.0 range)
