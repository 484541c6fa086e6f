use Rattle.std.proofs.Common.{◌≡◌, ◌++◌, take}
use Rattle.commons.specs.Packets.{holds_of_packet}
use Rattle.step_core.proofs.elems.Elems.extend_by_packet.Given as goal

abbrev pub invariant-loop-i : goal.invariant-loop-i
invariant-loop-i l = l.self ≡ l.fn.self ++ holds_of_packet (take l.i l.segs)
