use Rattle.std.proofs.Common.{◌≡◌, ◌≤◌, length, take}
use Rattle.commons.specs.Bounds.{max_population}
use Rattle.ground.specs.Seats.{KnowsEnd}
use Rattle.stack_lf.specs.Tries.{Walk, elements}
use Rattle.stack_lf.specs.Effects.{Walked}
use Rattle.stack_lf.proofs.getting.walk.Given as goal

-- as many links as places are walked so far, and the places list their elements
abbrev pub invariant-loop-k : goal.invariant-loop-k
invariant-loop-k l =
    (ps : Walk) × (length ps ≡ l.k) × Walked l.fn.head ps l.next l.fn.seat l.seat
    × (take l.k l.out ≡ elements ps) × (length l.out ≡ length l.fn.out) × (l.next ≤ max_population)
    × KnowsEnd l.seat.known.limits l.seat.known.view
