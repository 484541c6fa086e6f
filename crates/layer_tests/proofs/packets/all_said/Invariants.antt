use Rattle.commons.specs.Beside.{LeavesOthers}
use Rattle.layer_tests.specs.OwnAtSite.{OwnAtSite}
use Rattle.layer_tests.proofs.packets.all_said.Given as goal

abbrev pub invariant-loop-place : goal.invariant-loop-place
invariant-loop-place g l = record {
  own : OwnAtSite l.packets l.c;
  others : LeavesOthers l.fn.c l.c;
}
