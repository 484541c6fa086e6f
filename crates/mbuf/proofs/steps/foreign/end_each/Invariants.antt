use Rattle.std.proofs.Common.{◌≡◌, ◌*◌, ◌≤◌, take}
use Rattle.commons.specs.Bounds.{max_population}
use Rattle.commons.specs.Packets.{own_of_packet}
use Rattle.mbuf.specs.Foreign.{bases_of_packet}
use Rattle.mbuf.specs.inside.Ending.{LostHolds}
use Rattle.mbuf.specs.inside.Turns.{EndsInTurn}
use Rattle.mbuf.specs.PacketRules.{freed_nothing}
use Rattle.mbuf.proofs.steps.foreign.end_each.Given as goal

-- the segments so far have ended, in order
abbrev pub invariant-loop-seg : goal.invariant-loop-seg
invariant-loop-seg g l = record {
  ended : EndsInTurn g.P.Pair.first_did g.P.Pair.first_side g.P.Pair.second_did g.P.Pair.second_side
      l.fn.first.limits l.fn.second.limits (take l.seg-index l.segs) l.fn.pair l.fn.first.cache l.fn.second.cache
      freed_nothing l.pair l.first.cache l.second.cache l.freed;
  first : LostHolds (bases_of_packet (take l.seg-index l.segs)) l.fn.first (g.P.Pair.first_side l.fn.pair) l.first
      (g.P.Pair.first_side l.pair);
  second : LostHolds (own_of_packet (take l.seg-index l.segs)) l.fn.second (g.P.Pair.second_side l.fn.pair) l.second
      (g.P.Pair.second_side l.pair);
  first_name : g.P.Pair.first_name l.pair ≡ g.P.Pair.first_name l.fn.pair;
  second_name : g.P.Pair.second_name l.pair ≡ g.P.Pair.second_name l.fn.pair;
  back : l.freed.back ≤ 2 * l.seg-index;
  flushed : l.freed.flushed ≤ max_population * l.freed.back;
}
