use Rattle.word_tests.specs.Ready.{IsReady}
use Rattle.word_tests.proofs.tests.playing.play_own.Given as goal

-- the worker is ready for the next line
abbrev pub invariant-loop-line : goal.invariant-loop-line
invariant-loop-line l = IsReady l.fn.ground l.player.c.seat l.player.packets
