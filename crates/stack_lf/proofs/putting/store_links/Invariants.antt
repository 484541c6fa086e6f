use Rattle.std.proofs.Common.{◌≡◌, ◌≤◌, take}
use Rattle.stack_lf.specs.Tries.{last_of}
use Rattle.stack_lf.specs.Effects.{Stored}
use Rattle.stack_lf.proofs.putting.store_links.Given as goal

-- the links so far are stored
abbrev pub invariant-loop-k : goal.invariant-loop-k
invariant-loop-k l = Stored l.fn.top (take l.k l.fn.list) l.fn.seat l.seat
    × (l.next ≡ last_of l.fn.top (take l.k l.fn.list)) × (l.next ≤ l.fn.ground.limits.population)
