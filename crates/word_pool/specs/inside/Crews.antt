-- How the workers of a pool are made, one after another.
use Rattle.std.specs.Prelude.{ℕ, ◌≡◌, List, [], All, None, replicate, ◌*◌}
use Rattle.commons.specs.declared.limits.Limits.{Limits}
use Rattle.ground.specs.Changing.{IsUnmoved}
use Rattle.ground.specs.Seats.{Grounded, Seated}
use Rattle.mbuf.specs.Members.{Member, slots}
use Rattle.pool_model.specs.Pool.{new_members}
use Rattle.step_core.specs.World.{empty_view, worker_part}
use Rattle.word_pool.specs.Workers.{WorkerState, HasNotActed, IsWorker, members_of}

-- a seat with this many workers' parts of a pool of these limits, which names nothing and has taken no step
pub record IsUnused (l : Limits) (parts : ℕ) (s : Seated) : Type 0 where
  pub limits : s.known.limits ≡ l
  pub view : s.known.view ≡ empty_view (parts * worker_part)
  pub slots : s.slots ≡ []
  pub unmoved : IsUnmoved s.known

-- the cache and packets of a worker who has none
abbrev pub new_member : Limits → ℕ → Member
new_member l number = record { limits = l; number = number; cache = []; table = replicate slots None }

-- the first n workers of a new pool
pub record AreFirst (g : Grounded) (n : ℕ) (ms : List WorkerState) : Type 0 where
  pub members : members_of ms ≡ new_members g.limits 1 n
  pub each : All (IsWorker g) ms
  pub views : All (λ m. m.seat.known.view ≡ empty_view worker_part) ms
  pub unmoved : All HasNotActed ms
