use Rattle.std.specs.Prelude.{IfSome}
use Rattle.word_tests.specs.Ready.{IsReady}
use Rattle.word_tests.proofs.tests.playing.play_all.Given as goal

-- both workers are ready for the next line
abbrev pub invariant-loop-line : goal.invariant-loop-line
invariant-loop-line l =
    IsReady l.fn.ground l.first.c.seat l.first.packets
    × IfSome l.second (λ p. IsReady l.fn.ground p.c.seat p.packets)
