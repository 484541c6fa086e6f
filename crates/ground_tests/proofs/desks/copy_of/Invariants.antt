use Rattle.std.proofs.Common.{◌≡◌, take}
use Rattle.ground_tests.proofs.desks.copy_of.Given as goal

-- this many segments are copied
abbrev pub invariant-loop-i : goal.invariant-loop-i
invariant-loop-i l = l.copy ≡ take l.i l.segs
