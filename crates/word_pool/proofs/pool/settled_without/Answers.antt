-- What is lost beside the one seat is what the missing workers have.
use Rattle.std.proofs.lemmas.Result.{IfOk-weaker}
use Rattle.book.specs.Lost.{unlisted_of}
use Rattle.snapshot.specs.Closing.{snapshot_of}
use Rattle.snapshot.specs.Lost.{AreLost}
use Rattle.word_pool.specs.Lost.{AreLostOf}
use Rattle.word_pool.proofs.Lost.{lost_of_workers}
use Rattle.word_pool.proofs.pool.settled_without.Goals as goal

pub returns-in-Ok-closed_by-clause-lost : goal.returns-in-Ok-closed_by-clause-lost
returns-in-Ok-closed_by-clause-lost c =
    let g = c.args.ground in
    let ms = c.args.workers.items in
    let listed = c.args.missing.now in
    let e = c.joined-seat.ensures in
    let handed = c.joined-seat.result.1.items in
    IfOk-weaker c.elements_lost.result
    (λ elems. AreLost (snapshot_of c.in-Ok-closed_by.limits c.in-Ok-closed_by.closed (unlisted_of listed handed)) elems.items)
    (λ elems. AreLostOf g listed ms elems.items)
    (λ elems out. lost_of_workers g listed ms c.joined-seat.result.0.known handed elems.items c.in-Ok-closed_by.limits
    c.in-Ok-closed_by.closed e.made e.idle e.members e.shares c.in-Ok-closed_by.ensures.closed out)
    c.elements_lost.ensures.lost
