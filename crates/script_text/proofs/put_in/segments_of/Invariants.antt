use Rattle.std.proofs.Common.{◌≡◌, ◌≤◌, [], length}
use Rattle.script_text.specs.inside.Reading.{words_of}
use Rattle.script_text.specs.inside.PutInReading.{segments_from}
use Rattle.script_text.proofs.put_in.segments_of.Given as goal

-- the segments so far, with those that are left
abbrev pub invariant-loop-word : goal.invariant-loop-word
invariant-loop-word l = record {
  same : segments_from l.segments.items (words_of l.left) ≡ segments_from [] (words_of l.rest);
  few : length l.segments.items ≤ 32;
}

abbrev pub decreases-loop-word : goal.decreases-loop-word
decreases-loop-word l = length l.left
