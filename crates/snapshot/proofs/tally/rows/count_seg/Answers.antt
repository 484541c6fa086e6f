use Rattle.commons.specs.Bag.{bag, one}
use Rattle.commons.specs.Packets.{hold_of, holds_of_seg}
use Rattle.commons.proofs.PacketBags.{bag-seg}
use Rattle.snapshot.proofs.Meetings.{met-then}
use Rattle.snapshot.proofs.tally.rows.count_seg.Goals as goal

-- the base first, and then the own element
pub returns : goal.returns
returns c = met-then (bag (hold_of c.args.seg.base)) (one c.args.seg.elem)
    (bag (holds_of_seg c.args.seg)) _ _ _ c.count_base.ensures c.count.ensures (bag-seg c.args.seg)
