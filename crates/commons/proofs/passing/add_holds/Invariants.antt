use Rattle.std.proofs.Common.{◌≡◌, ◌+◌, ℕ, length, take, slice_index}
use Rattle.commons.specs.Bag.{bag}
use Rattle.commons.specs.Packets.{holds_of_packet}
use Rattle.commons.proofs.passing.add_holds.Given as goal

-- the holds of the segments so far were added
abbrev pub invariant-loop-seg : goal.invariant-loop-seg
invariant-loop-seg l = record {
  holds : (i : ℕ) → slice_index l.row i ≡ slice_index l.fn.row i + bag (holds_of_packet (take l.seg-index l.segs)) i;
  len : length l.row ≡ length l.fn.row;
}
