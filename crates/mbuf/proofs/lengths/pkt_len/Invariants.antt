use Rattle.std.proofs.Common.{◌≡◌, ◌≤◌, ◌*◌, take}
use Rattle.std.specs.Prelude.{sum_by}
use Rattle.commons.specs.Bounds.{max_buf}
use Rattle.mbuf.proofs.lengths.pkt_len.Given as goal

-- the bytes of the segments so far
abbrev pub invariant-loop-seg : goal.invariant-loop-seg
invariant-loop-seg l =
    (l.len ≡ sum_by (λ seg. seg.data_len) (take l.seg-index l.seg-items))
    × (l.len ≤ max_buf * l.seg-index)
