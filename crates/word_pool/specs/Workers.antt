-- The workers of a pool on words.
use Rattle.std.specs.Prelude.{◌≡◌, ◌<◌, ◌++◌, ℕ, List, [], All, flat_map, length, map, slice_index_or, sum_by}
use Rattle.std.specs.List.{range_with_len}
use Rattle.commons.specs.Calls.{Calls}
use Rattle.commons.specs.declared.limits.Limits.{Limits}
use Rattle.commons.specs.Packets.{held_in}
use Rattle.ground.specs.Changing.{IsUnmoved}
use Rattle.ground.specs.Lying.{LieByNotes}
use Rattle.ground.specs.Own.{AtRest, KnowsDesks}
use Rattle.ground.specs.Seats.{Grounded, Note, Seated, IsOf}
use Rattle.ground.specs.declared.known.Known.{Known}
use Rattle.mbuf.specs.declared.acts.Act.{Act}
use Rattle.mbuf.specs.Acts.{Performs, Reply}
use Rattle.mbuf.specs.Fresh.{AreFresh, new_elements}
use Rattle.mbuf.specs.Members.{Member, KeepsMember}
use Rattle.mbuf.specs.Own.{Own}
use Rattle.mbuf.specs.Refused.{AsBefore, IfRefused}
use Rattle.pool_statement.specs.declared.statement.Statement.{Statement}
use Rattle.pool_model.specs.Pool.{new_members}
use Rattle.stack_lf.specs.Sides.{side_of}
use Rattle.stack_lf.specs.Tries.{DidOnWords}
use Rattle.step_core.specs.World.{empty_view, worker_part, every_part}
use Rattle.word_pool.specs.Leaving.{IsStatementOf}
use Rattle.word_pool.specs.Shares.{AreSharesOf}

-- a worker: its seat, and its cache and packets
pub record WorkerState : Type 0 where
  pub seat : Seated
  pub member : Member

-- between its acts: the seat is at rest, no slot is out with it, and the packets are the worker's
-- own
pub record IsIdle (m : WorkerState) : Type 0 where
  pub rest : AtRest m.seat.known.view
  pub slots : m.seat.slots ≡ []
  pub own : Own m.member (side_of m.seat)

-- it is the same worker: of the same pool, with the same number and the same part of it
pub record Stays (old new : WorkerState) : Type 0 where
  pub table : new.seat.table ≡ old.seat.table
  pub limits : new.seat.known.limits ≡ old.seat.known.limits
  pub part : new.seat.known.view.part ≡ old.seat.known.view.part
  pub number : new.member.number ≡ old.member.number

-- It is the same worker, of the same pool and with the same number, whatever part of it this worker
-- has now: less where it has sent packets, and more where it has received some.
pub record IsSameWorker (old new : WorkerState) : Type 0 where
  pub table : new.seat.table ≡ old.seat.table
  pub limits : new.seat.known.limits ≡ old.seat.known.limits
  pub number : new.member.number ≡ old.member.number

-- each of these workers stays
pub record AllStay (old new : List WorkerState) : Type 0 where
  pub as_many : length new ≡ length old
  pub each : (i : ℕ) (d : WorkerState) → i < length old → Stays (slice_index_or old i d) (slice_index_or new i d)

-- each of these workers is the same
pub record AllAreSame (old new : List WorkerState) : Type 0 where
  pub as_many : length new ≡ length old
  pub each : (i : ℕ) (d : WorkerState) → i < length old → IsSameWorker (slice_index_or old i d) (slice_index_or new i d)

-- The worker did this and was answered so: by calls over the words, each of which took the steps
-- of its tries. What the answer tells of as new, none of its packets held; and where the act was
-- refused, all is as before, but for the free elements after a clone.
pub record Acts (act : Act) (old : WorkerState) (reply : Reply) (new : WorkerState) : Type 0 where
  pub calls : Calls DidOnWords side_of old.seat new.seat (λ calls. Performs act old.member calls reply new.member)
  pub fresh : AreFresh old.member.limits.population (held_in old.member.table) (new_elements reply)
  pub refused : IfRefused reply (AsBefore act old.member (side_of old.seat) new.member (side_of new.seat))
  pub member : KeepsMember old.member new.member
  pub stays : Stays old new

-- a worker of this ground, with a worker's part of it
pub record IsWorker (g : Grounded) (m : WorkerState) : Type 0 where
  pub of : IsOf g m.seat
  pub part : m.seat.known.view.part ≡ worker_part

-- the caches and packets of workers
abbrev pub members_of : List WorkerState → List Member
members_of ms = map (λ m. m.member) ms

-- the worker's seat is one of this ground
abbrev pub IsAt : Grounded → WorkerState → Type 0
IsAt g m = IsOf g m.seat

-- the parts of these workers, all together
abbrev pub parts_of : List WorkerState → ℕ
parts_of ms = sum_by (λ m. m.seat.known.view.part) ms

-- all workers of this ground, in their order, whatever part of it each has
pub record AreCrew (g : Grounded) (ms : List WorkerState) : Type 0 where
  pub numbers : map (λ member. member.number) (members_of ms) ≡ range_with_len 1 g.limits.workers
  pub each : All (IsAt g) ms

-- All workers of this ground, in their order, who together have every part of it: no other seat has
-- any, and no packet is under way from one worker to another.
pub record AreWorkers (g : Grounded) (ms : List WorkerState) : Type 0 where
  pub numbers : map (λ member. member.number) (members_of ms) ≡ range_with_len 1 g.limits.workers
  pub each : All (IsAt g) ms
  pub parts : parts_of ms ≡ every_part g.limits

-- the worker's seat has taken no step, and no seat that has was joined to it
abbrev pub HasNotActed : WorkerState → Type 0
HasNotActed m = IsUnmoved m.seat.known

-- They are the workers of a new pool, who have nothing: their caches and tables are empty, and
-- their views name nothing. None of them has taken a step.
pub record AreNew (l : Limits) (ms : List WorkerState) : Type 0 where
  pub members : members_of ms ≡ new_members l 1 l.workers
  pub views : All (λ m. m.seat.known.view ≡ empty_view worker_part) ms
  pub unmoved : All HasNotActed ms

-- the steps that the seats of these workers noted, and those of the seats that were joined to them
abbrev pub notes_by : List WorkerState → List Note
notes_by ms = flat_map (λ m. m.seat.known.steps ++ m.seat.known.joined) ms

-- What the one seat knows that the seats of all these workers were joined to, in their order.
pub record IsSeatOf (ms : List WorkerState) (n : Known) : Type 0 where
  -- it has the part of each
  pub part : n.view.part ≡ parts_of ms
  -- the elements in its hand, those that it holds and its headers are theirs, all together
  pub hand : n.view.hand ≡ flat_map (λ m. m.seat.known.view.hand) ms
  pub holds : n.view.holds ≡ flat_map (λ m. m.seat.known.view.holds) ms
  pub headers : n.view.headers ≡ flat_map (λ m. m.seat.known.view.headers) ms
  -- the steps that it noted, and those of the seats that were joined to it, are theirs, and no
  -- other
  pub notes : n.steps ++ n.joined ≡ notes_by ms
  -- it is between calls
  pub rest : AtRest n.view

-- The statement of what a ground left, closed by the only seat, to which the seats of these workers
-- were joined, and of their caches and packets, which are what that seat has.
pub record IsStatementOfWorkers (g : Grounded) (ms : List WorkerState) (s : Statement) : Type 0 where
  pub known : Known
  pub seat : IsSeatOf ms known
  pub limits : known.limits ≡ g.limits
  pub whole : known.view.part ≡ every_part g.limits
  -- it knows what lies on the desks, and that lay there (`desks` of the statement)
  pub desks : KnowsDesks known
  -- each worker was between its acts: its packets were its own
  pub idle : All IsIdle ms
  pub shares : AreSharesOf (members_of ms) known.view
  pub statement : IsStatementOf g.limits known (members_of ms) s
  -- on the desks lay what these workers' notes leave there: of the packets with which they opened a
  -- desk, those that none of them seized
  pub lying : LieByNotes (notes_by ms) statement.closed.desks
