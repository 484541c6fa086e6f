use Rattle.std.proofs.Common.{take}
use Rattle.commons.specs.Packets.{holds_of_packet}
use Rattle.commons.specs.inside.Site.{HasEnded}
use Rattle.commons.proofs.passing.end_holds.Given as goal

-- the holds of the segments so far have ended
abbrev pub invariant-loop-seg : goal.invariant-loop-seg
invariant-loop-seg l =
    HasEnded l.worker (holds_of_packet (take l.seg-index l.segs)) l.fn.row l.fn.headers.items l.row
    l.headers.items
