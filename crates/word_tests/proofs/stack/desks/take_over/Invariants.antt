use Rattle.std.proofs.Common.{◌≡◌, []}
use Rattle.word_tests.specs.Carrying.{Carries}
use Rattle.word_tests.proofs.stack.desks.take_over.Given as goal

-- the worker carries what it has; its seat is still one of the ground, and no slot is out with it
abbrev pub invariant-loop-place : goal.invariant-loop-place
invariant-loop-place l =
    Carries l.carried l.c.seat
    × (l.c.seat.table ≡ l.fn.ground.table)
    × (l.c.seat.known.limits ≡ l.fn.ground.limits)
    × (l.c.seat.slots ≡ [])
