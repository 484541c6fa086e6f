-- What is lost of the pool that acts made of a new one.
use Rattle.std.proofs.Common.{[], ◌∷◌}
use Rattle.std.proofs.lemmas.Result.{IfOk-weaker}
use Rattle.book.specs.Lost.{AreLostWith}
use Rattle.script.specs.Losing.{AreOfPool, LosesByActs}
use Rattle.script.proofs.Losses.{loses_by_acts, of_pool_locked}
use Rattle.script.proofs.under_lock.run_lost.Goals as goal

pub returns-clause-lost : goal.returns-clause-lost
returns-clause-lost g c =
    let left = c.in_ok-limits in
    let l = c.args.limits.now in
    let w = c.args.worker in
    IfOk-weaker c.settled_parts_without.result
    (λ elems. AreLostWith left.limits (w ∷ []) left.shares.items left.closed.desks elems.items)
    (λ elems. LosesByActs l w elems.items)
    (λ elems are. loses_by_acts l left.limits left.closed left.shares.items w elems.items left.ensures.limits
    left.ensures.reached are)
    c.settled_parts_without.ensures.lost

-- these are elements of the pool
pub returns-clause-pool : goal.returns-clause-pool
returns-clause-pool g c =
    let left = c.in_ok-limits in
    let l = c.args.limits.now in
    let w = c.args.worker in
    IfOk-weaker c.settled_parts_without.result
    (λ elems. AreLostWith left.limits (w ∷ []) left.shares.items left.closed.desks elems.items)
    (λ elems. AreOfPool l elems.items)
    (λ elems are. of_pool_locked l left.limits (w ∷ []) left.shares.items left.closed.desks elems.items
    left.ensures.limits are)
    c.settled_parts_without.ensures.lost
