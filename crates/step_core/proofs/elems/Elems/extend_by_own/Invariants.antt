use Rattle.std.proofs.Common.{◌≡◌, ◌++◌, take}
use Rattle.commons.specs.Packets.{own_of_packet}
use Rattle.step_core.proofs.elems.Elems.extend_by_own.Given as goal

abbrev pub invariant-loop-i : goal.invariant-loop-i
invariant-loop-i l = l.self ≡ l.fn.self ++ own_of_packet (take l.i l.segs)
