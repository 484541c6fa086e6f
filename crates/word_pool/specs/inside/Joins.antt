-- How the workers of a pool are ended, one after another.
use Rattle.std.specs.Prelude.{◌≡◌, ◌++◌, List, [], All, reverse}
use Rattle.commons.specs.declared.closed.Closed.{Closed}
use Rattle.commons.specs.declared.limits.Limits.{Limits}
use Rattle.ground.specs.Changing.{IsUnmoved}
use Rattle.ground.specs.Own.{AtRest, KnowsDesks}
use Rattle.ground.specs.Seats.{Grounded, Seated, IsOf}
use Rattle.ground.specs.declared.known.Known.{Known}
use Rattle.mbuf.specs.Members.{Member}
use Rattle.word_pool.specs.Shares.{AreSharesOf}
use Rattle.word_pool.specs.Workers.{WorkerState, AreWorkers, HasNotActed, IsAt, IsIdle, IsSeatOf, members_of}
use Rattle.word_pool.specs.inside.Closing.{IsClosedBy}
use Rattle.step_core.specs.World.{every_part}

-- The seats of the last workers are one seat, which is at rest and has their parts, and their
-- shares are handed in, the last worker's first. The others are left.
pub record AreJoined (g : Grounded) (all left : List WorkerState) (seat : Seated) (handed : List Member) : Type 0 where
  pub each : All (IsAt g) left
  pub done : List WorkerState
  pub split : all ≡ left ++ done
  pub idle : All IsIdle done
  pub of : IsOf g seat
  pub rest : AtRest seat.known.view
  pub slots : seat.slots ≡ []
  pub made : IsSeatOf done seat.known
  pub members : reverse handed ≡ members_of done
  pub shares : AreSharesOf (reverse handed) seat.known.view
  -- where no worker has acted, none of the others has, and the seat has taken no step
  pub unmoved : All HasNotActed all → All HasNotActed left × IsUnmoved seat.known

-- The ground was closed by the one seat that the seats of all these workers were joined to, and
-- their shares, which were handed in, are what that seat had.
pub record AreClosed (g : Grounded) (ms : List WorkerState) (n : Known) (l : Limits) (c : Closed) (handed : List Member) : Type 0 where
  pub all : AreWorkers g ms
  pub closed : IsClosedBy g n l c
  pub seat : IsSeatOf ms n
  pub limits : n.limits ≡ g.limits
  pub whole : n.view.part ≡ every_part g.limits
  pub desks : KnowsDesks n
  pub idle : All IsIdle ms
  pub same : handed ≡ members_of ms
  pub shares : AreSharesOf handed n.view
