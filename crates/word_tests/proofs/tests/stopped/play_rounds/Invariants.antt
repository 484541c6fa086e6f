use Rattle.word_tests.specs.Ready.{IsReady}
use Rattle.word_tests.proofs.tests.stopped.play_rounds.Given as goal

-- the worker is ready for the next round
abbrev pub invariant-loop : goal.invariant-loop
invariant-loop l = IsReady l.fn.ground l.player.c.seat l.player.packets
