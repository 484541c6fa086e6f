use Rattle.std.proofs.Common.{take}
use Rattle.pool_model.specs.Guests.{guest_holds}
use Rattle.snapshot.specs.inside.Tallies.{HasMet}
use Rattle.snapshot.proofs.tally.rows.count_guests.Given as goal

-- the guests so far were met
abbrev pub invariant-loop-guest : goal.invariant-loop-guest
invariant-loop-guest l = HasMet (guest_holds (take l.guest-index l.guests)) l.fn.row.items l.row.items
