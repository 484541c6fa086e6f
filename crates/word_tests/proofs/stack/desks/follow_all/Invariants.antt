use Rattle.word_tests.specs.Carrying.{Carries}
use Rattle.word_tests.specs.Idle.{Stays}
use Rattle.word_tests.proofs.stack.desks.follow_all.Given as goal

-- each worker carries what it has, and its seat is still one of its ground
abbrev pub invariant-loop-worker : goal.invariant-loop-worker
invariant-loop-worker g l =
    Carries l.carried l.first.seat
    × Stays l.fn.first.seat l.first.seat
    × Carries l.others l.second.seat
    × Stays l.fn.second.seat l.second.seat
