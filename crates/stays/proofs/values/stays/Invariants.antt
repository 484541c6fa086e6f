use Rattle.std.proofs.Common.{◌≡◌, map, take}
use Rattle.serde_json.specs.View.{view}
use Rattle.stays.specs.StayData.{stay_data}
use Rattle.stays.proofs.values.stays.Given as goal

-- the values so far
abbrev pub invariant-loop-used : goal.invariant-loop-used
invariant-loop-used l = map view l.values.items ≡ map stay_data (take l.used-index l.stay)
