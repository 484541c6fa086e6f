-- The workers of two pools on words.
use Rattle.std.specs.Prelude.{◌≡◌, ◌<◌, ℕ, List, [], All, length, map, slice_index_or}
use Rattle.std.specs.List.{range_with_len}
use Rattle.commons.specs.declared.limits.Limits.{Limits}
use Rattle.ground.specs.Changing.{IsUnmoved}
use Rattle.ground.specs.Own.{AtRest, KnowsDesks}
use Rattle.ground.specs.Seats.{Grounded, Seated, IsOf}
use Rattle.mbuf.specs.Acts.{Reply}
use Rattle.mbuf.specs.Foreign.{BothCalls}
use Rattle.mbuf.specs.Fresh.{new_elements}
use Rattle.mbuf.specs.Members.{Member}
use Rattle.mbuf.specs.Refused.{IfRefused}
use Rattle.mbuf.specs.Twins.{OwnTwin, TwinMember}
use Rattle.pool_model.specs.Pool.{new_members}
use Rattle.pool_statement.specs.declared.statement.Statement.{Statement}
pub use Rattle.book.specs.TwinBooks.{AreTwinPools, IsTwinMakeCause}
use Rattle.stack_lf.specs.Sides.{side_of}
use Rattle.stack_lf.specs.Tries.{DidOnWords}
use Rattle.twin_acts.specs.TwinActs.{AreFreshByAct, KeepsTwin, PerformsTwin, TwinAsBefore}
use Rattle.twin_acts.specs.declared.acts.TwinAct.{TwinAct}
use Rattle.word_pool.specs.TwinShares.{AreStatementsOf, AreTwinShares}
use Rattle.ground.specs.declared.known.Known.{Known}
use Rattle.ground.specs.Lying.{LieByNotes}
use Rattle.word_pool.specs.Workers.{WorkerState, IsSeatOf, notes_by}
use Rattle.step_core.specs.World.{worker_part, every_part}

-- a worker: its seat at the ground of either pool, and what it has of both
pub record TwinState : Type 0 where
  pub first : Seated
  pub second : Seated
  pub member : TwinMember

-- between its acts: both seats are at rest, no slot is out with them, and packets and clones are the
-- worker's own
pub record IsTwinIdle (m : TwinState) : Type 0 where
  pub first_rest : AtRest m.first.known.view
  pub second_rest : AtRest m.second.known.view
  pub first_slots : m.first.slots ≡ []
  pub second_slots : m.second.slots ≡ []
  pub own : OwnTwin m.member (side_of m.first) (side_of m.second)

-- the seat is one of the same ground, with the same part of it
pub record SeatStays (old new : Seated) : Type 0 where
  pub table : new.table ≡ old.table
  pub limits : new.known.limits ≡ old.known.limits
  pub part : new.known.view.part ≡ old.known.view.part

-- it is the same worker of the same pools
pub record TwinStays (old new : TwinState) : Type 0 where
  pub first : SeatStays old.first new.first
  pub second : SeatStays old.second new.second
  pub member : KeepsTwin old.member new.member

-- each of these workers is the same
pub record AllTwinsStay (old new : List TwinState) : Type 0 where
  pub as_many : length new ≡ length old
  pub each : (i : ℕ) (d : TwinState) → i < length old → TwinStays (slice_index_or old i d) (slice_index_or new i d)

-- The worker did this and was answered so: by calls over the words of either ground, each of which
-- took the steps of its tries. What the answer tells of as new the worker held none of; and where
-- the act was refused, all is as before, but for the free elements after a clone.
pub record DoesTwin (act : TwinAct) (old : TwinState) (reply : Reply) (new : TwinState) : Type 0 where
  pub calls : BothCalls DidOnWords side_of old.first new.first DidOnWords side_of old.second new.second
      (λ firsts seconds. PerformsTwin act old.member firsts seconds reply new.member)
  pub fresh : AreFreshByAct act old.member (side_of old.first) (side_of old.second) (new_elements reply)
  pub refused : IfRefused reply (TwinAsBefore act old.member (side_of old.first) (side_of old.second)
      new.member (side_of new.first) (side_of new.second))
  pub stays : TwinStays old new

-- a worker of these grounds, with a worker's part of either
pub record IsTwinWorker (g h : Grounded) (m : TwinState) : Type 0 where
  pub first : IsOf g m.first
  pub second : IsOf h m.second
  pub first_part : m.first.known.view.part ≡ worker_part
  pub second_part : m.second.known.view.part ≡ worker_part

-- what workers have of both pools, and of either
abbrev pub twins_of : List TwinState → List TwinMember
twins_of ms = map (λ m. m.member) ms

abbrev pub firsts_of : List TwinState → List Member
firsts_of ms = map (λ t. t.first) (twins_of ms)

abbrev pub seconds_of : List TwinState → List Member
seconds_of ms = map (λ t. t.second) (twins_of ms)

-- the workers as those of either pool: the seat at its ground, and what they have of it
abbrev pub first_crew : List TwinState → List WorkerState
first_crew ms = map (λ m. record { seat = m.first; member = m.member.first }) ms

abbrev pub second_crew : List TwinState → List WorkerState
second_crew ms = map (λ m. record { seat = m.second; member = m.member.second }) ms

-- neither seat of the worker has taken a step, nor was one that has joined to it
pub record HasNotActedTwice (m : TwinState) : Type 0 where
  pub first : IsUnmoved m.first.known
  pub second : IsUnmoved m.second.known

-- all workers of these grounds, in their order
pub record AreTwinWorkers (g h : Grounded) (ms : List TwinState) : Type 0 where
  pub pools : AreTwinPools g.limits h.limits
  pub first_numbers : map (λ m. m.number) (firsts_of ms) ≡ range_with_len 1 g.limits.workers
  pub second_numbers : map (λ m. m.number) (seconds_of ms) ≡ range_with_len 1 h.limits.workers
  pub each : All (IsTwinWorker g h) ms

-- They are the workers of new pools, who have nothing: their caches and tables are empty. None of
-- them has taken a step.
pub record AreNewTwins (l k : Limits) (ms : List TwinState) : Type 0 where
  pub firsts : firsts_of ms ≡ new_members l 1 l.workers
  pub seconds : seconds_of ms ≡ new_members k 1 k.workers
  pub unmoved : All HasNotActedTwice ms

-- The statements of what two grounds left, each closed by its only seat, to which the seats there of
-- these workers were joined, and of their caches, packets and clones, which are what those seats had.
pub record AreStatementsOfTwins (g h : Grounded) (ms : List TwinState) (s : Statement × Statement) : Type 0 where
  pub first_known : Known
  pub second_known : Known
  pub first_seat : IsSeatOf (first_crew ms) first_known
  pub second_seat : IsSeatOf (second_crew ms) second_known
  pub first_limits : first_known.limits ≡ g.limits
  pub second_limits : second_known.limits ≡ h.limits
  pub first_whole : first_known.view.part ≡ every_part g.limits
  pub second_whole : second_known.view.part ≡ every_part h.limits
  -- each knows what lies on the desks of its pool
  pub first_desks : KnowsDesks first_known
  pub second_desks : KnowsDesks second_known
  -- each worker was between its acts: packets and clones were its own
  pub idle : All IsTwinIdle ms
  pub shares : AreTwinShares (twins_of ms) first_known.view second_known.view
  pub statements : AreStatementsOf g.limits h.limits first_known second_known (twins_of ms) s
  -- on the desks lay what these workers' notes leave there
  pub first_lying : LieByNotes (notes_by (first_crew ms)) statements.first.desks
  pub second_lying : LieByNotes (notes_by (second_crew ms)) statements.second.desks
