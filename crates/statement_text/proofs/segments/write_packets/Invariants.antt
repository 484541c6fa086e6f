use Rattle.std.proofs.Common.{◌≡◌, ◌++◌, take}
use Rattle.std.specs.List.{flat_map}
use Rattle.statement_text.specs.StatementText.{packet_text}
use Rattle.statement_text.proofs.segments.write_packets.Given as goal

abbrev pub invariant-loop-packet : goal.invariant-loop-packet
invariant-loop-packet l =
    l.out.items ≡ l.fn.out.items ++ flat_map packet_text (take l.packet-index l.packets)
