-- What holds of a worker over words between its calls.
use Rattle.std.specs.Prelude.{◌≡◌, []}
use Rattle.ground.specs.Seats.{Grounded, Seated}
use Rattle.mbuf.specs.Members.{Member}
use Rattle.mbuf.specs.Own.{Own}
use Rattle.stack_lf.specs.Sides.{side_of}
use Rattle.word_tests.specs.Idle.{IsIdle}

-- the packets are the worker's own, by its seat
abbrev pub OwnBySeat : Member → Seated → Type 0
OwnBySeat m s = Own m (side_of s)

-- the seat is an idle one of this ground, and the packets are the worker's own
pub record IsReady (g : Grounded) (s : Seated) (m : Member) : Type 0 where
  pub idle : IsIdle g s
  pub own : OwnBySeat m s

-- the seat is an idle one of this ground, and names nothing
pub record IsUnused (g : Grounded) (s : Seated) : Type 0 where
  pub idle : IsIdle g s
  pub hand : s.known.view.hand ≡ []
  pub holds : s.known.view.holds ≡ []
