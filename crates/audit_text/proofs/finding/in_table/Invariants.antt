use Rattle.std.proofs.Common.{◌≡◌, ◌++◌, drop}
use Rattle.audit_text.specs.Places.{table_from}
use Rattle.audit_text.proofs.finding.in_table.Given as goal

-- the places so far, with those in the packets to come, are all
abbrev pub invariant-loop-index : goal.invariant-loop-index
invariant-loop-index l =
    l.out.items ++ table_from l.bases l.elem l.table l.index (drop l.index l.packets)
    ≡ l.fn.out.items ++ table_from l.bases l.elem l.table 0 l.packets
