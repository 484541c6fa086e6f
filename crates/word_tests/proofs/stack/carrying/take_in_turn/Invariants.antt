use Rattle.word_tests.specs.Carrying.{Carries}
use Rattle.word_tests.specs.Idle.{Stays}
use Rattle.word_tests.proofs.stack.carrying.take_in_turn.Given as goal

-- the worker carries what it has, and its seat is still one of its ground
abbrev pub invariant-loop : goal.invariant-loop
invariant-loop l = Carries l.carried l.c.seat × Stays l.fn.c.seat l.c.seat
