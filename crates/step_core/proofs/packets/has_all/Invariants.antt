use Rattle.std.proofs.Common.{◌≡◌, take, true}
use Rattle.commons.specs.Packets.{holds_of_packet}
use Rattle.step_core.specs.Bags.{includes_from}
use Rattle.step_core.proofs.packets.has_all.Given as goal

abbrev pub invariant-loop-i : goal.invariant-loop-i
invariant-loop-i l = includes_from l.holds (holds_of_packet l.packet) (holds_of_packet (take l.i l.segs)) ≡ true
