use Rattle.std.proofs.Common.{◌≡◌, ◌≤◌, ◌*◌, take}
use Rattle.commons.specs.Bag.{bag}
use Rattle.commons.specs.Packets.{holds_of_packet}
use Rattle.step_core.proofs.packets.count_in.Given as goal

-- how often the segments so far hold the element, each twice at most
abbrev pub invariant-loop-i : goal.invariant-loop-i
invariant-loop-i l = record
    { times : l.times ≡ bag (holds_of_packet (take l.i l.segs)) l.element; few : l.times ≤ 2 * l.i }
