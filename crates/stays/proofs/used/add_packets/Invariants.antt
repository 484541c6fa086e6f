use Rattle.std.proofs.Common.{◌≡◌, ◌++◌, map, take}
use Rattle.stays.specs.Stays.{slot_use}
use Rattle.stays.proofs.used.add_packets.Given as goal

-- the packets so far
abbrev pub invariant-loop-packet : goal.invariant-loop-packet
invariant-loop-packet l =
    l.used.items ≡ l.fn.used.items ++ map slot_use (take l.packet-index l.packets)
