use Rattle.std.proofs.Common.{sym, arith}
use Rattle.step_core.proofs.Bags.{times-nil}
use Rattle.step_core.proofs.PacketTests.{count_on}
use Rattle.step_core.proofs.packets.count_in.Goals as goal

pub loop-i-init : goal.loop-i-init
loop-i-init c = record { times = sym (times-nil c.args.element); few = omega arith }

-- what one segment more holds is counted
pub loop-i-preserved : goal.loop-i-preserved
loop-i-preserved c = record {
  times =
      count_on c.segs-segs.result.now c.loop-i.i c.args.element _ _ _ c.loop-i-test.true
      c.loop-i.invariant.times c.count_in_seg-times.ensures.count;
  few = (let a = c.loop-i.invariant.few in let b = c.count_in_seg-times.ensures.few in omega arith);
}
