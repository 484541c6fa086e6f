use Rattle.std.proofs.Common.{◌≡◌, ◌++◌, take}
use Rattle.audit_text.specs.FaultText.{lines_text}
use Rattle.audit_text.proofs.lines.write_lines.Given as goal

-- the lines of the faults so far
abbrev pub invariant-loop-fault : goal.invariant-loop-fault
invariant-loop-fault l =
    l.out.items ≡ l.fn.out.items ++ lines_text l.front l.stack l.snapshot (take l.fault-index l.faults)
