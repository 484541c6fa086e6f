-- All workers are in order, and what stands nowhere without the listed ones is lost with them.
use Rattle.std.proofs.lemmas.Result.{IfOk-weaker}
use Rattle.book.specs.Lost.{AreLostWith, unlisted_of}
use Rattle.snapshot.specs.Closing.{snapshot_of}
use Rattle.snapshot.specs.Lost.{AreLost}
use Rattle.share_book.proofs.ending.settled_parts_without.Goals as goal

pub elements_lost-requires-clause-ordered : goal.elements_lost-requires-clause-ordered
elements_lost-requires-clause-ordered c =
    c.all_workers_are_in_order.ensures c.args.limits.now c.args.shares.items c.args.missing.now c.requires.workers

pub returns-clause-lost : goal.returns-clause-lost
returns-clause-lost c =
    let l = c.args.limits.now in
    let members = c.args.shares.items in
    let listed = c.args.missing.now in
    IfOk-weaker c.elements_lost.result
    (λ elems. AreLost (snapshot_of l c.args.closed (unlisted_of listed members)) elems.items)
    (λ elems. AreLostWith l listed members c.args.closed.desks elems.items)
    (λ elems are. c.what_stands_nowhere_is_lost.ensures l c.args.closed members listed elems.items c.requires.lawful are)
    c.elements_lost.ensures.lost
