use Rattle.std.proofs.Common.{◌≡◌, ◌++◌, drop}
use Rattle.audit_text.specs.Places.{others_from}
use Rattle.audit_text.proofs.packets.in_table.Given as goal

-- the places so far, with those of the packets to come, are all
abbrev pub invariant-loop-index : goal.invariant-loop-index
invariant-loop-index l =
    l.out.items ++ others_from l.table l.index (drop l.index l.packets)
    ≡ l.fn.out.items ++ others_from l.table 0 l.packets
