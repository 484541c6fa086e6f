use Rattle.std.proofs.Common.{◌≡◌, map, take}
use Rattle.serde_json.specs.View.{view}
use Rattle.snapshot_json.proofs.parts.all.Given as goal

-- what the items so far show
abbrev pub invariant-loop-item : goal.invariant-loop-item
invariant-loop-item g l = l.found.items ≡ map g.T.Part.shown (map view (take l.item-index l.items))
