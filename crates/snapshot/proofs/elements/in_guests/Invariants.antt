use Rattle.std.proofs.Common.{take}
use Rattle.pool_model.specs.Guests.{guest_holds}
use Rattle.snapshot.specs.inside.Gathered.{HasGathered}
use Rattle.snapshot.proofs.elements.in_guests.Given as goal

-- of the guests so far
abbrev pub invariant-loop-guest : goal.invariant-loop-guest
invariant-loop-guest l =
    HasGathered l.population (guest_holds (take l.guest-index l.guests)) l.fn.named.items l.named.items
