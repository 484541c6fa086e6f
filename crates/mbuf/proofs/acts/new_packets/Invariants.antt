use Rattle.std.proofs.Common.{◌≡◌, map, take}
use Rattle.mbuf.specs.Acts.{new_packet}
use Rattle.mbuf.proofs.acts.new_packets.Given as goal

-- the packets so far
abbrev pub invariant-loop-slot : goal.invariant-loop-slot
invariant-loop-slot g l = l.list.items ≡ map (new_packet l.packets.table) (take l.slot-index l.slots)
