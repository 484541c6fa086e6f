use Rattle.std.proofs.Common.{take}
use Rattle.pool_model.specs.Guests.{guest_holds}
use Rattle.snapshot.specs.inside.Marks.{HasMarked}
use Rattle.snapshot.proofs.lost.marks.mark_guests.Given as goal

-- the guests so far are marked
abbrev pub invariant-loop-guest : goal.invariant-loop-guest
invariant-loop-guest l = HasMarked (guest_holds (take l.guest-index l.guests)) l.fn.met.items l.met.items
