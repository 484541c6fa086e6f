use Rattle.std.proofs.Common.{List, [], ◌∷◌, subst, sym, arith}
use Rattle.book.specs.Lost.{IsOf as IsWorkerOf}
use Rattle.commons.specs.declared.limits.Limits.{Limits}
use Rattle.word_pool.specs.Lost.{AreLeft}
use Rattle.word_pool.specs.Workers.{WorkerState}
use Rattle.word_tests.proofs.tests.memory.lost_of_new.Goals as goal

-- worker 2 is one of the pool's two, so the other is left
pub settled_without-requires : goal.settled_without-requires
settled_without-requires c =
    let left = c.in_ok-ground in
    subst (λ (ms : List WorkerState). AreLeft left.ground (2 ∷ []) ms) (sym c.lose.ensures)
    (c.a_worker_is_lost_and_the_others_are_left.ensures.left left.ground left.workers.items 2
    left.ensures.workers
    (subst (λ (l : Limits). IsWorkerOf l 2) (sym left.ensures.limits)
    (record { first = omega arith; last = omega arith })))
