-- What is lost of all the ground's workers with one of them.
use Rattle.std.proofs.Common.{[], ◌∷◌, subst, sym}
use Rattle.std.proofs.lemmas.Result.{IfOk-weaker}
use Rattle.book.specs.Lost.{IsOf as IsWorkerOf}
use Rattle.commons.specs.declared.limits.Limits.{Limits}
use Rattle.script.specs.Losing.{AreOfPool, LosesOnWords}
use Rattle.word_pool.specs.Lost.{AreLostOf}
use Rattle.script.proofs.Losses.{loses_on_words, of_pool_on_words}
use Rattle.script.proofs.on_words.run_lost.Goals as goal

-- the worker is one of the ground's, and so there to be lost
pub lose-requires-clause-last : goal.lose-requires-clause-last
lose-requires-clause-last g c =
    let left = c.in_ok-ground in
    (c.a_worker_is_lost_and_the_others_are_left.ensures.number left.ground left.workers.items c.args.worker
    left.ensures.workers (subst (λ (l : Limits). IsWorkerOf l c.args.worker) (sym left.ensures.limits) c.requires.worker)).1

pub returns-clause-lost : goal.returns-clause-lost
returns-clause-lost g c =
    let left = c.in_ok-ground in
    let l = c.args.limits.now in
    let w = c.args.worker in
    IfOk-weaker c.settled_without.result (λ elems. AreLostOf left.ground (w ∷ []) c.lose.new.workers.items elems.items)
    (λ elems. LosesOnWords l w elems.items)
    (λ elems are. loses_on_words l left.ground left.workers.items c.lose.new.workers.items w elems.items
    left.ensures.limits left.ensures.workers c.lose.ensures are)
    c.settled_without.ensures.lost

-- these are elements of the pool
pub returns-clause-pool : goal.returns-clause-pool
returns-clause-pool g c =
    let left = c.in_ok-ground in
    let l = c.args.limits.now in
    let w = c.args.worker in
    IfOk-weaker c.settled_without.result (λ elems. AreLostOf left.ground (w ∷ []) c.lose.new.workers.items elems.items)
    (λ elems. AreOfPool l elems.items)
    (λ elems are. of_pool_on_words l left.ground (w ∷ []) c.lose.new.workers.items elems.items left.ensures.limits are)
    c.settled_without.ensures.lost
