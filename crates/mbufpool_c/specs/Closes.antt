-- What C is answered where it closes a pool of packets.
use Rattle.std.specs.Prelude.{ℕ, ◌≡◌, ◌≢◌, ◌+◌, ◌⊎◌, List, [], ◌∷◌, Option, Some, None, All, flat_map, length, map, slice_index_or}
use Rattle.commons.specs.declared.refusal.Refusal.TheVariants.{InUse, OutOfMemory, StrangerShare}
use Rattle.commons.specs.Refusals.{number_of}
use Rattle.ground.specs.Seats.{Grounded}
use Rattle.pool_statement.specs.declared.statement.Statement.{Statement}
use Rattle.pool_model.specs.Statements.{ListsEachOnce, PlacesEachOnce}
use Rattle.book.specs.Listing.{ListsPackets}
use Rattle.step_core.specs.World.{every_part}
use Rattle.word_pool.specs.Lost.{AreLeft, AreLostOf}
use Rattle.word_pool.specs.Workers.{WorkerState, AreWorkers, IsAt, IsStatementOfWorkers, parts_of}
use Rattle.mbufpool_c.specs.Labelled.{Labelled}
use Rattle.mbufpool_c.specs.declared.ending.Ending.{Ending}
use Rattle.mbufpool_c.specs.declared.worker_handle.WorkerHandle.{WorkerHandle}

-- what handles have
abbrev pub values_of : List WorkerHandle → List (Option Labelled)
values_of handles = map (λ h. h.value) handles

-- no handle has a worker
abbrev pub AreEmpty : List WorkerHandle → Type 0
AreEmpty handles = All (λ v. v ≡ None) (values_of handles)

-- the handles have what they had
abbrev pub HaveSame : List WorkerHandle → List WorkerHandle → Type 0
HaveSame old new = values_of new ≡ values_of old

-- the number of the worker in a handle, where there is one
abbrev pub worker_number : Option Labelled → List ℕ
worker_number None = []
worker_number (Some m) = m.worker.member.number ∷ []

-- the numbers of the workers in handles
abbrev pub numbers_in : List WorkerHandle → List ℕ
numbers_in handles = flat_map worker_number (values_of handles)

-- none of these numbers is another's
abbrev pub AreApart : List ℕ → List ℕ → Type 0
AreApart ws vs = All (λ w. All (λ v. v ≢ w) vs) ws

-- what a misused handle is refused by: a number that no refusal has
abbrev pub misused : ℕ
misused = 25

-- What all workers of this ground left is the pool's statement: it lists each element exactly once,
-- what is available and what is in use are the population, and each packet has a place of its own.
abbrev pub IsStated : Grounded → List WorkerState → Ending → Type 0
IsStated g ms e = (s : Statement) × (e.statement ≡ Some s) × (e.lost.items ≡ [])
    × AreWorkers g ms × IsStatementOfWorkers g ms s
    × ListsEachOnce s × PlacesEachOnce g.limits s × ListsPackets g.limits s

-- What workers of this ground left, beside whom these are missing, is the list of the elements that
-- are lost: with those who are missing, and with packets under way.
abbrev pub IsLost : Grounded → List ℕ → List WorkerState → Ending → Type 0
IsLost g missing ms e = (e.statement ≡ None) × AreLeft g missing ms × AreLostOf g missing ms e.lost.items

-- The workers ms of this ground, beside whom these are missing, are settled. Where nobody is and
-- each packet that was sent was received, so that they have every part of the pool, its statement is
-- left, else the list of what is lost.
abbrev pub IsSettled : Grounded → List ℕ → List WorkerState → Ending → Type 0
IsSettled g [] ms e =
    IsStated g ms e ⊎ (((parts_of ms ≡ every_part g.limits) → ⊥) × IsLost g [] ms e)
IsSettled g (w ∷ missing) ms e = IsLost g (w ∷ missing) ms e

-- one of these handles has a worker of this ground: the ground's words and limits are that worker's
abbrev pub HasOneOf : Grounded → List WorkerHandle → Type 0
HasOneOf g handles =
    (m : Labelled) × (k : ℕ) × (slice_index_or (values_of handles) k None ≡ Some m) × IsAt g m.worker

-- Workers of this ground are settled, as many as there were in handles. Each worker whose number
-- one of these had is among them: none of those who are missing has it.
pub record HasClosed (ground : Grounded) (numbers : List ℕ) (e : Ending) : Type 0 where
  pub workers : List WorkerState
  pub missing : List ℕ
  pub as_many : length workers ≡ length numbers
  pub apart : AreApart numbers missing
  pub all : length workers + length missing ≡ ground.limits.workers
  pub settled : IsSettled ground missing workers e

-- The handles have no workers then, and C has what their pool left: one of them was of its words
-- and limits.
pub record Closes (old new : List WorkerHandle) (ending : Option Ending) : Type 0 where
  pub left : AreEmpty new
  pub found : Ending
  pub there : ending ≡ Some found
  pub ground : Grounded
  pub of : HasOneOf ground old
  pub closed : HasClosed ground (numbers_in old) found

-- Why a pool isn't closed, while each handle keeps what it has: there is no worker, or one of
-- another pool than the first's; one of the pool is in a handle elsewhere; or memory was refused.
abbrev pub IsRefused : ℕ → Type 0
IsRefused status = (status ≡ number_of StrangerShare) ⊎ (status ≡ number_of InUse) ⊎ (status ≡ number_of OutOfMemory)

-- Why a pool is ended, and nothing is told: memory was refused, or a handle was misused.
abbrev pub IsEnded : ℕ → Type 0
IsEnded status = (status ≡ number_of OutOfMemory) ⊎ (status ≡ misused)

abbrev pub RefusesClose : List WorkerHandle → ℕ → List WorkerHandle → Type 0
RefusesClose old status new = (HaveSame old new × IsRefused status) ⊎ (AreEmpty new × IsEnded status)
