-- How the workers of two pools are made, one after another, and ended.
use Rattle.std.specs.Prelude.{ℕ, ◌≡◌, ◌++◌, List, [], All, reverse}
use Rattle.book.specs.declared.closed_twin.ClosedTwin.{ClosedTwin}
use Rattle.ground.specs.Changing.{IsUnmoved}
use Rattle.ground.specs.Own.{KnowsDesks}
use Rattle.ground.specs.Seats.{Grounded, Seated, IsOf}
use Rattle.mbuf.specs.Twins.{TwinMember}
use Rattle.pool_model.specs.Pool.{new_members}
use Rattle.word_pool.specs.TwinShares.{AreTwinShares}
use Rattle.word_pool.specs.inside.Closing.{IsClosedBy}
use Rattle.word_pool.specs.TwinWorkers.{TwinState, AreTwinWorkers, HasNotActedTwice, IsTwinIdle, IsTwinWorker, first_crew, firsts_of, second_crew, seconds_of, twins_of}
use Rattle.word_pool.specs.Workers.{WorkerState, IsSeatOf}

-- the first n workers of new pools
pub record AreFirstTwins (g h : Grounded) (n : ℕ) (ms : List TwinState) : Type 0 where
  pub firsts : firsts_of ms ≡ new_members g.limits 1 n
  pub seconds : seconds_of ms ≡ new_members h.limits 1 n
  pub each : All (IsTwinWorker g h) ms
  pub unmoved : All HasNotActedTwice ms

-- a seat of this ground that the seats of these workers were joined to
pub record IsWhole (g : Grounded) (ms : List WorkerState) (s : Seated) : Type 0 where
  pub of : IsOf g s
  pub slots : s.slots ≡ []
  pub made : IsSeatOf ms s.known

-- The seats of the last workers are one seat of either ground, which is at rest and has their parts,
-- and their shares are handed in, the last worker's first. The others are left.
pub record AreTwinsJoined (g h : Grounded) (all left : List TwinState) (s u : Seated) (handed : List TwinMember) : Type 0 where
  pub each : All (IsTwinWorker g h) left
  pub done : List TwinState
  pub split : all ≡ left ++ done
  pub idle : All IsTwinIdle done
  pub first : IsWhole g (first_crew done) s
  pub second : IsWhole h (second_crew done) u
  pub members : reverse handed ≡ twins_of done
  pub shares : AreTwinShares (reverse handed) s.known.view u.known.view
  -- where no worker has acted, none of the others has, and the seats have taken no step
  pub unmoved : All HasNotActedTwice all → All HasNotActedTwice left × IsUnmoved s.known × IsUnmoved u.known

-- Each ground was closed by the one seat there that the seats of all these workers were joined to,
-- and their shares are what these seats had.
pub record AreTwinsClosed (g h : Grounded) (ms : List TwinState) (s u : Seated) (c : ClosedTwin) : Type 0 where
  pub all : AreTwinWorkers g h ms
  pub first : IsClosedBy g s.known c.first_limits c.first
  pub second : IsClosedBy h u.known c.second_limits c.second
  pub first_whole : IsWhole g (first_crew ms) s
  pub second_whole : IsWhole h (second_crew ms) u
  pub first_desks : KnowsDesks s.known
  pub second_desks : KnowsDesks u.known
  pub idle : All IsTwinIdle ms
  pub same : c.shares.items ≡ twins_of ms
  pub shares : AreTwinShares c.shares.items s.known.view u.known.view
