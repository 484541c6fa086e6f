-- How numbers are dealt to racks.
use Rattle.std.specs.Prelude.{◌≡◌, ◌<◌, []}
use Rattle.depot.specs.declared.roll.Roll.{Roll}
use Rattle.depot.specs.Dealing.{last_number}
use Rattle.depot.specs.Resting.{IsBare}
use Rattle.depot.specs.Seats.{Site, IsOf}

-- it has the numbers from the next one on, and nothing else
pub record IsRoll (g : Site) (x : Roll) : Type 0 where
  pub of : IsOf g x.seat
  pub magazines : x.seat.me.1 ≡ []
  pub hand : x.seat.me.0.hand ≡ []
  pub out : x.seat.me.0.out ≡ []
  pub bare : IsBare x.seat.me.0.resting
  pub from : x.seat.me.0.resting.from ≡ x.next
  pub to : x.seat.me.0.resting.to ≡ last_number
  pub some : 0 < x.next
