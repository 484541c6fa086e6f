use Rattle.std.proofs.Common.{◌*◌, take}
use Rattle.commons.specs.Packets.{holds_of_packet}
use Rattle.mbuf.specs.PacketRules.{freed_nothing}
use Rattle.mbuf.specs.inside.Ending.{EndedHolds}
use Rattle.mbuf.proofs.steps.end_each.Given as goal

-- the holds of the segments so far have ended
abbrev pub invariant-loop-seg : goal.invariant-loop-seg
invariant-loop-seg g l =
    EndedHolds g.C.Commons.did g.C.Commons.side (holds_of_packet (take l.seg-index l.segs)) l.fn.worker l.fn.c
    freed_nothing (2 * l.seg-index) l.freed l.worker l.c
