use Rattle.std.proofs.Common.{◌≡◌, take}
use Rattle.step_core.proofs.packets.copy_of.Given as goal

abbrev pub invariant-loop-i : goal.invariant-loop-i
invariant-loop-i l = l.copy ≡ take l.i l.segs
