use Rattle.std.proofs.Common.{◌≡◌, map, take}
use Rattle.serde_json.specs.View.{view}
use Rattle.stays.specs.StayData.{part_data}
use Rattle.stays.proofs.values.parts.Given as goal

-- the values so far
abbrev pub invariant-loop-part : goal.invariant-loop-part
invariant-loop-part l = map view l.values.items ≡ map part_data (take l.part-index l.parts)
