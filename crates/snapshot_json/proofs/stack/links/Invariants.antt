use Rattle.std.proofs.Common.{◌≡◌, ◌≤◌, drop, length}
use Rattle.snapshot_json.specs.SnapshotData.{links_of, top_of}
use Rattle.snapshot_json.proofs.stack.links.Given as goal

-- the words of the elements from the bottom up to here
abbrev pub invariant-loop-left : goal.invariant-loop-left
invariant-loop-left l = record {
  within : l.left ≤ length l.common;
  links : l.links.items ≡ links_of l.population (drop l.left l.common);
  below : l.below ≡ top_of (drop l.left l.common);
  len : length l.links.items ≡ l.population;
}

abbrev pub decreases-loop-left : goal.decreases-loop-left
decreases-loop-left l = l.left
