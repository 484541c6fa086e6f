use Rattle.std.proofs.Common.{◌≡◌, map, take}
use Rattle.serde_json.specs.View.{view}
use Rattle.snapshot_json.proofs.values.SeqWritten.value.Given as goal

-- the values so far
abbrev pub invariant-loop-part : goal.invariant-loop-part
invariant-loop-part g l = map view l.values.items ≡ map g.T.Written.data_of (take l.part-index l.self)
