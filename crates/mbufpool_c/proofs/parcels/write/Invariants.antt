use Rattle.std.proofs.Common.{◌≡◌, ◌<◌, ◌≤◌, ℕ, get_or, length}
use Rattle.commons.specs.declared.packet.Seg.{Seg}
use Rattle.mbufpool_c.specs.Parcels.{written}
use Rattle.mbufpool_c.specs.declared.parcels.ParcelSegment.{ParcelSegment}
use Rattle.mbufpool_c.proofs.parcels.write.Given as goal

-- the segments that were passed are written, and the other places are as they were
abbrev pub invariant-loop-k : goal.invariant-loop-k
invariant-loop-k l = record {
  each : (j : ℕ) (d : Seg) (e : ParcelSegment) → j < l.k → get_or l.out j e ≡ written (get_or l.segs j d);
  behind : (j : ℕ) (e : ParcelSegment) → l.k ≤ j → get_or l.out j e ≡ get_or l.fn.out j e;
  as_many : length l.out ≡ length l.fn.out;
}
