use Rattle.ground.specs.Seats.{IsOf}
use Rattle.word_pool.specs.Workers.{Stays}
use Rattle.word_tests.proofs.tests.passing.pass_on.Given as goal

-- the worker is still the same one of this ground
abbrev pub invariant-loop-turn : goal.invariant-loop-turn
invariant-loop-turn l = IsOf l.fn.ground l.worker.seat × Stays l.fn.worker l.worker
