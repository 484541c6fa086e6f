-- A seat that has done nothing as yet.
use Rattle.std.specs.Prelude.{◌≡◌, []}
use Rattle.ground.specs.Own.{AtRest}
use Rattle.ground.specs.Seats.{Grounded, Seated, IsOf}

-- the seat is one of this ground, at rest, and names nothing
pub record IsFresh (g : Grounded) (s : Seated) : Type 0 where
  pub of : IsOf g s
  pub rest : AtRest s.known.view
  pub hand : s.known.view.hand ≡ []
  pub holds : s.known.view.holds ≡ []
