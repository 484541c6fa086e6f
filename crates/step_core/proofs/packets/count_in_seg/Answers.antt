use Rattle.step_core.proofs.PacketTests.{seg_alone, seg_based}
use Rattle.step_core.proofs.packets.count_in_seg.Goals as goal

pub returns-in-None-clause-count : goal.returns-in-None-clause-count
returns-in-None-clause-count c = seg_alone c.args.seg c.args.element _ c.in-None.is c.one_if_same.ensures.same

-- an indirect segment holds its own element and its base
pub returns-in-Some-clause-count : goal.returns-in-Some-clause-count
returns-in-Some-clause-count c =
    seg_based c.args.seg c.in-Some.base c.args.element _ _ c.in-Some.is
    c.one_if_same-in-Some.ensures.same c.one_if_same-in-Some-2.ensures.same
