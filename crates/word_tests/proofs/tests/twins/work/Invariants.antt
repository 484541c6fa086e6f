use Rattle.ground.specs.Seats.{IsOf}
use Rattle.word_pool.specs.TwinWorkers.{TwinStays}
use Rattle.word_tests.proofs.tests.twins.work.Given as goal

-- the worker is still the same one of these grounds
abbrev pub invariant-loop-act : goal.invariant-loop-act
invariant-loop-act l =
    IsOf l.fn.first l.worker.first × IsOf l.fn.second l.worker.second × TwinStays l.fn.worker l.worker
