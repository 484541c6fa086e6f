use Rattle.std.proofs.Common.{sym}
use Rattle.commons.specs.Packets.{holds_of_packet, no_seg}
use Rattle.step_core.specs.Bags.{includes_from}
use Rattle.step_core.proofs.PacketTests.{includes-append, test_more, test_fails, test_whole}
use Rattle.step_core.proofs.packets.has_all.Goals as goal

-- a hold of one segment isn't there as often
pub returns-then-not-has_seg : goal.returns-then-not-has_seg
returns-then-not-has_seg c =
    let all = holds_of_packet c.args.packet.now in
    test_fails (includes_from c.args.holds.now all) (includes-append c.args.holds.now all)
    c.args.packet.now c.segs-segs.result.now c.segs-segs.ensures.segs c.loop-i.i no_seg
    c.loop-i-test.true (sym c.if-not-has_seg.ensures)

-- what one segment more holds is among the holds
pub loop-i-preserved : goal.loop-i-preserved
loop-i-preserved c =
    let all = holds_of_packet c.args.packet.now in
    test_more (includes_from c.args.holds.now all) (includes-append c.args.holds.now all)
    c.args.packet.now c.segs-segs.result.now c.segs-segs.ensures.segs c.loop-i.i no_seg
    c.loop-i-test.true c.loop-i.invariant (sym c.if-not-has_seg.ensures)

-- all that the packet holds is among the holds
pub returns : goal.returns
returns c =
    let all = holds_of_packet c.args.packet.now in
    test_whole (includes_from c.args.holds.now all) (includes-append c.args.holds.now all)
    c.args.packet.now c.segs-segs.result.now c.segs-segs.ensures.segs c.loop-i.i
    c.loop-i-test.false c.loop-i.invariant
