use Rattle.std.proofs.Common.{map, take}
use Rattle.json.specs.Value.{value_view}
use Rattle.snapshot_json.specs.Dumped.{AreOf}
use Rattle.snapshot_json.proofs.dumped.SeqDumped.read.Given as goal

-- what the items so far are
abbrev pub invariant-loop-item : goal.invariant-loop-item
invariant-loop-item g l = AreOf g.T.Dumped.data_of (map value_view (take l.item-index l.items)) l.found.items
