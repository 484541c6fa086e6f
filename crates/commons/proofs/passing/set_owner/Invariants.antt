use Rattle.std.proofs.Common.{◌≡◌, drop, vec_len}
use Rattle.commons.specs.Lists.{placed}
use Rattle.commons.specs.Packets.{own_of_packet}
use Rattle.commons.proofs.passing.set_owner.Given as goal

-- the headers so far, with the rest of the segments, are those of the whole packet
abbrev pub invariant-loop-seg : goal.invariant-loop-seg
invariant-loop-seg l = record {
  rest : placed (own_of_packet (drop l.seg-index l.segs)) l.owner l.headers.items
      ≡ placed (own_of_packet l.segs) l.owner l.fn.headers.items;
  len : vec_len l.headers ≡ vec_len l.fn.headers;
}
