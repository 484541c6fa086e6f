use Rattle.ground.specs.Seats.{IsOf}
use Rattle.word_pool.specs.Workers.{IsSameWorker}
use Rattle.word_tests.proofs.tests.parcels.share.Given as goal

-- the worker is the same
abbrev pub invariant-loop-mail : goal.invariant-loop-mail
invariant-loop-mail g l = record {
  of : IsOf l.ground l.worker.seat;
  same : IsSameWorker l.fn.worker l.worker;
}
