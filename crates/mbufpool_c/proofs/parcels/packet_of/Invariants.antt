use Rattle.std.proofs.Common.{◌≡◌, ◌≤◌, map, take}
use Rattle.mbufpool_c.specs.Parcels.{read}
use Rattle.mbufpool_c.proofs.parcels.packet_of.Given as goal

-- the packet has the segments that were read
abbrev pub invariant-loop-k : goal.invariant-loop-k
invariant-loop-k l = record {
  packet : l.packet ≡ map read (take l.k l.bytes);
  some : 1 ≤ l.k;
}
