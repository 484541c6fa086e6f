-- As many first bytes as are counted were written, and no write failed.
use Rattle.std.proofs.Common.{◌≡◌, ◌-◌, ◌≤◌, false, length, take}
use Rattle.std.specs.Io.KnownBytes.{Appends}
use Rattle.script_io.specs.Told.{TakesBytes}
use Rattle.script_io.proofs.writing.write_out.Given as goal

abbrev pub invariant-loop-count : goal.invariant-loop-count
invariant-loop-count g l = record {
  within : l.count ≤ length l.text;
  written : Appends (g.W.Sink.contents l.initial.w.inner) (g.W.Sink.contents l.w.inner) (take l.count l.text);
  sound : l.w.failed ≡ false;
  told : TakesBytes (g.W.Sink.told l.initial.w.inner) (g.W.Sink.told l.w.inner);
}

abbrev pub decreases-loop-count : goal.decreases-loop-count
decreases-loop-count g l = length l.text - l.count
