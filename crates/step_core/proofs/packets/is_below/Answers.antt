use Rattle.std.proofs.Common.{sym}
use Rattle.commons.specs.Packets.{no_seg}
use Rattle.step_core.specs.Bags.{all_below}
use Rattle.step_core.proofs.PacketTests.{all_below-append, test_more, test_fails, test_whole}
use Rattle.step_core.proofs.packets.is_below.Goals as goal

-- what one segment holds isn't all below the population
pub returns-then-not-seg_below : goal.returns-then-not-seg_below
returns-then-not-seg_below c =
    test_fails (all_below c.args.population) (all_below-append c.args.population)
    c.args.packet.now c.segs-segs.result.now c.segs-segs.ensures.segs c.loop-i.i no_seg
    c.loop-i-test.true (sym c.if-not-seg_below.ensures)

-- what one segment more holds is below the population
pub loop-i-preserved : goal.loop-i-preserved
loop-i-preserved c =
    test_more (all_below c.args.population) (all_below-append c.args.population)
    c.args.packet.now c.segs-segs.result.now c.segs-segs.ensures.segs c.loop-i.i no_seg
    c.loop-i-test.true c.loop-i.invariant (sym c.if-not-seg_below.ensures)

-- all that the packet holds is below the population
pub returns : goal.returns
returns c =
    test_whole (all_below c.args.population) (all_below-append c.args.population)
    c.args.packet.now c.segs-segs.result.now c.segs-segs.ensures.segs c.loop-i.i
    c.loop-i-test.false c.loop-i.invariant
