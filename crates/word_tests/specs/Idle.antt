-- What holds of a seat between the calls of its worker.
use Rattle.std.specs.Prelude.{◌≡◌, []}
use Rattle.ground.specs.Own.{AtRest}
use Rattle.ground.specs.Seats.{Grounded, Seated, IsOf}

-- the seat is one of this ground, at rest, and no slot is out with it
pub record IsIdle (g : Grounded) (s : Seated) : Type 0 where
  pub of : IsOf g s
  pub rest : AtRest s.known.view
  pub slots : s.slots ≡ []

-- the second seat is one of the same ground as the first, with the same slots out
pub record Stays (s t : Seated) : Type 0 where
  pub table : t.table ≡ s.table
  pub limits : t.known.limits ≡ s.known.limits
  pub slots : t.slots ≡ s.slots
