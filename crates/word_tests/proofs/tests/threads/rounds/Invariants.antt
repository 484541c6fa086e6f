use Rattle.ground.specs.Seats.{IsOf}
use Rattle.word_pool.specs.Workers.{Stays}
use Rattle.word_tests.proofs.tests.threads.rounds.Given as goal

-- the worker is still the same one of this ground
abbrev pub invariant-loop : goal.invariant-loop
invariant-loop l = IsOf l.fn.ground l.worker.seat × Stays l.fn.worker l.worker
