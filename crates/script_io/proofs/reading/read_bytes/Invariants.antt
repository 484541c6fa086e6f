-- The bytes are what left the reader, no more than are read at most, and no read failed.
use Rattle.std.proofs.Common.{◌≡◌, ◌-◌, ◌≤◌, false, vec_items, vec_len}
use Rattle.std.specs.Io.KnownBytes.{Consumes}
use Rattle.script_io.proofs.reading.read_bytes.Given as goal

abbrev pub invariant-loop-r : goal.invariant-loop-r
invariant-loop-r g l = record {
  most : vec_len l.bytes ≤ l.limit;
  taken : Consumes (g.R.Source.remaining l.initial.r.inner) (g.R.Source.remaining l.r.inner) (vec_items l.bytes);
  sound : l.r.failed ≡ false;
}

abbrev pub decreases-loop-r : goal.decreases-loop-r
decreases-loop-r g l = l.limit - vec_len l.bytes
