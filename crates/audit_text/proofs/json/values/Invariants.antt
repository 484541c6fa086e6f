use Rattle.std.proofs.Common.{◌≡◌, map, take}
use Rattle.serde_json.specs.View.{view}
use Rattle.audit_text.specs.FaultData.{fault_data}
use Rattle.audit_text.proofs.json.values.Given as goal

-- the values so far
abbrev pub invariant-loop-fault : goal.invariant-loop-fault
invariant-loop-fault l = map view l.values.items ≡ map (fault_data l.stack l.snapshot) (take l.fault-index l.faults)
