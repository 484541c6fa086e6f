use Rattle.std.proofs.Common.{◌≡◌, ◌≤◌, take}
use Rattle.mbuf.proofs.packets.parcels.rewrite.Given as goal

-- the packet has the segments so far
abbrev pub invariant-loop-k : goal.invariant-loop-k
invariant-loop-k l = record {
  packet : l.packet ≡ take l.k l.segs;
  some : 1 ≤ l.k;
}
