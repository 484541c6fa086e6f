use Rattle.std.proofs.Common.{◌≡◌, length}
use Rattle.mbuf.proofs.packets.blank_packets.Given as goal

-- there are as many packets as were made so far
abbrev pub invariant-loop : goal.invariant-loop
invariant-loop l = length l.packets.items ≡ l.counter
