use Rattle.std.proofs.Common.{◌≡◌, ◌≤◌, take, map, length}
use Rattle.step_text.specs.Playing.{segment_of}
use Rattle.step_text.proofs.asked.packet_of.Given as goal

abbrev pub invariant-loop-i : goal.invariant-loop-i
invariant-loop-i l = record {
  so_far : l.packet ≡ map (segment_of l.limits) (take l.i l.segments);
  few : length l.packet ≤ l.i;
}
