use Rattle.ground.specs.Seats.{IsOf}
use Rattle.word_pool.specs.Workers.{IsSameWorker}
use Rattle.word_tests.proofs.tests.parcels.make.Given as goal

-- the worker is the same
abbrev pub invariant-loop : goal.invariant-loop
invariant-loop g l = record {
  of : IsOf l.ground l.worker.seat;
  same : IsSameWorker l.fn.worker l.worker;
}
