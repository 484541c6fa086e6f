-- What is lost with a worker at the end of a run of a script in threads.
use Rattle.std.specs.Prelude.{ℕ, ◌≡◌, ◌⊎◌, ◌<◌, List, [], ◌∷◌, ◌++◌, All, IsSome, None, codes}
use Rattle.book.specs.Lost.{AreLostWith, IsOf}
use Rattle.commons.specs.declared.limits.Limits.{Limits}
use Rattle.commons.specs.declared.refusal.Refusal.{Refusal}
use Rattle.commons.specs.declared.refusal.Refusal.TheVariants.{Foreign, OutOfMemory, StrangerShare}
use Rattle.element_text.specs.Elements.{elements_text}
use Rattle.ground.specs.Seats.{Grounded}
use Rattle.mbuf.specs.declared.acts.Act.{Act}
use Rattle.pool_model.specs.PacketModel.{after_acts}
use Rattle.pool_model.specs.Pool.{new_pool}
use Rattle.script.specs.declared.threaded.Grounds.{Grounds}
use Rattle.script.specs.declared.threaded.Grounds.TheVariants.{Words, Locked}
use Rattle.script_text.specs.declared.lines.Pools.{Pools}
use Rattle.script_text.specs.Commands.{Line}
use Rattle.script_text.specs.Grammar.{IsCause, IsScript}
use Rattle.snapshot.specs.Lost.{IsAscending}
use Rattle.word_pool.specs.Lost.{AreLostOf, left_of}
use Rattle.word_pool.specs.Workers.{WorkerState, AreWorkers}

-- Under the lock: of a new pool of these limits after some acts of its workers, one after another,
-- exactly these elements are in the cache of this one or held by it alone. Which acts these are
-- isn't said.
abbrev pub LosesByActs : Limits → ℕ → List ℕ → Type 0
LosesByActs l worker elems =
    (acts : List (ℕ × Act))
    × AreLostWith l (worker ∷ []) (after_acts acts (new_pool l)).members (after_acts acts (new_pool l)).shared.desks elems

-- On words: exactly these elements are in the hand of this worker of a ground of these limits, or
-- held by it alone, by what the ground left once the seats of all others had become one.
pub record LosesOnWords (l : Limits) (worker : ℕ) (elems : List ℕ) : Type 0 where
  pub shared : Grounded
  pub workers : List WorkerState
  pub limits : shared.limits ≡ l
  pub all : AreWorkers shared workers
  pub lost : AreLostOf shared (worker ∷ []) (left_of worker workers) elems

-- each once, ascending, and all of the pool
pub record AreOfPool (l : Limits) (elems : List ℕ) : Type 0 where
  pub ascending : IsAscending elems
  pub below : All (λ e. e < l.population) elems

-- what is lost with this worker at the end of a run on such a ground
pub record Loses (grounds : Grounds) (l : Limits) (worker : ℕ) (elems : List ℕ) : Type 0 where
  pub worker_is : IsOf l worker
  pub of_pool : AreOfPool l elems
  pub reached : grounds ≡ Locked → LosesByActs l worker elems
  pub ended : grounds ≡ Words → LosesOnWords l worker elems

-- Why it isn't said what is lost: there is a second pool. Or there is none, and the worker isn't of
-- the pool; or it is, and memory was refused.
pub data IsLostCause (pools : Pools) (worker : ℕ) (cause : Refusal) : Type 0 where
  OfTwo : IsSome pools.second → cause ≡ Foreign → IsLostCause pools worker cause
  Stranger : pools.second ≡ None → ¬ (IsOf pools.first worker) → cause ≡ StrangerShare →
      IsLostCause pools worker cause
  NoMemory : pools.second ≡ None → IsOf pools.first worker → cause ≡ OutOfMemory →
      IsLostCause pools worker cause

-- the bytes are a script of one pool, and this is lost with the worker at the end of a run on such a
-- ground
pub record LosesFrom (grounds : Grounds) (worker : ℕ) (bytes elems : List ℕ) : Type 0 where
  pub pools : Pools
  pub lines : List Line
  pub script : IsScript bytes pools lines
  pub alone : pools.second ≡ None
  pub loses : Loses grounds pools.first worker elems

-- the bytes are a script, and this is why it isn't said what is lost with the worker
pub record IsCauseOfRun (bytes : List ℕ) (worker : ℕ) (cause : Refusal) : Type 0 where
  pub pools : Pools
  pub lines : List Line
  pub script : IsScript bytes pools lines
  pub cause_is : IsLostCause pools worker cause

-- why it isn't said what is lost: the bytes aren't a script, or it is of two pools, or the worker
-- isn't of its pool, or memory was refused
abbrev pub IsCauseWithout : ℕ → List ℕ → Refusal → Type 0
IsCauseWithout worker bytes cause = IsCause bytes cause ⊎ IsCauseOfRun bytes worker cause

-- how many elements are lost, and which, as a line
abbrev pub lost_text : List ℕ → List ℕ
lost_text elems = codes "lost" ++ elements_text elems
