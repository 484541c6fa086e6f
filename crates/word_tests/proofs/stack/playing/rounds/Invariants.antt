use Rattle.std.proofs.Common.{◌≡◌, []}
use Rattle.word_tests.proofs.stack.playing.rounds.Given as goal

-- the worker's seat is still one of the ground, and no slot is out with it
abbrev pub invariant-loop : goal.invariant-loop
invariant-loop l =
    (l.c.seat.table ≡ l.fn.ground.table)
    × (l.c.seat.known.limits ≡ l.fn.ground.limits)
    × (l.c.seat.slots ≡ [])
