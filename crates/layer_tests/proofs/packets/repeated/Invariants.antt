use Rattle.commons.specs.Beside.{LeavesOthers}
use Rattle.layer_tests.specs.OwnAtSite.{OwnAtSite}
use Rattle.layer_tests.proofs.packets.repeated.Given as goal

abbrev pub invariant-loop-slot : goal.invariant-loop-slot
invariant-loop-slot l = record {
  own : OwnAtSite l.packets l.c;
  others : LeavesOthers l.fn.c l.c;
}
