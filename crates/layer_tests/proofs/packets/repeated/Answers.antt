use Rattle.layer_tests.proofs.BesideLemmas.{LeavesOthers-trans}
use Rattle.layer_tests.proofs.packets.repeated.Goals as goal

-- what the others have was left by the acts before, and is left by this one
pub loop-slot-preserved : goal.loop-slot-preserved
loop-slot-preserved c = record {
  own = c.acted.ensures.own;
  others =
      LeavesOthers-trans c.args.c.now c.loop-slot.c c.acted.new.c c.loop-slot.invariant.others
      c.acted.ensures.others;
}
