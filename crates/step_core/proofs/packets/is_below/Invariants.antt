use Rattle.std.proofs.Common.{◌≡◌, take, true}
use Rattle.commons.specs.Packets.{holds_of_packet}
use Rattle.step_core.specs.Bags.{all_below}
use Rattle.step_core.proofs.packets.is_below.Given as goal

abbrev pub invariant-loop-i : goal.invariant-loop-i
invariant-loop-i l = all_below l.population (holds_of_packet (take l.i l.segs)) ≡ true
