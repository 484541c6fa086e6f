use Rattle.layer_tests.proofs.BesideLemmas.{LeavesOthers-trans}
use Rattle.layer_tests.proofs.packets.all_said.Goals as goal

-- whatever this step says, the others have what they had before it, and so what they had at first
pub returns-in_err-said : goal.returns-in_err-said
returns-in_err-said g c = record {
  others =
      LeavesOthers-trans c.args.c.now c.loop-place.c c.said.new.c c.loop-place.invariant.others
      c.said.ensures.others;
}

-- as there, and the packets are the worker's own
pub loop-place-preserved : goal.loop-place-preserved
loop-place-preserved g c = record {
  own = c.said.ensures.own;
  others =
      LeavesOthers-trans c.args.c.now c.loop-place.c c.said.new.c c.loop-place.invariant.others
      c.said.ensures.others;
}
