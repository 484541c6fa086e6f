-- What a run of a script in threads comes to.
use Rattle.std.specs.Prelude.{ℕ, ◌≡◌, List}
use Rattle.commons.specs.declared.limits.Limits.{Limits}
use Rattle.ground.specs.Seats.{Grounded}
use Rattle.mbuf.specs.declared.acts.Act.{Act}
use Rattle.pool_model.specs.PacketModel.{after_acts}
use Rattle.pool_model.specs.Pool.{new_pool}
use Rattle.pool_model.specs.Statements.{statement_of}
use Rattle.pool_model.specs.TwinModel.{after_twin_acts, first_statement, new_twin_pool, second_statement}
use Rattle.pool_statement.specs.declared.settled.Settled.{Settled}
use Rattle.pool_statement.specs.declared.statement.Statement.{Statement}
use Rattle.script.specs.Settling.{OfPools}
use Rattle.script.specs.declared.threaded.Grounds.{Grounds}
use Rattle.script.specs.declared.threaded.Grounds.TheVariants.{Words, Locked}
use Rattle.script_text.specs.declared.lines.Pools.{Pools}
use Rattle.script_text.specs.Commands.{Line}
use Rattle.script_text.specs.Grammar.{IsScript}
use Rattle.twin_acts.specs.declared.acts.TwinAct.{TwinAct}
use Rattle.word_pool.specs.TwinWorkers.{AreStatementsOfTwins, AreTwinWorkers, TwinState}
use Rattle.word_pool.specs.Workers.{WorkerState, AreWorkers, IsStatementOfWorkers}

-- Under the lock: the statement of a new pool of these limits after some acts of its workers, one
-- after another. Which acts these are isn't said.
abbrev pub EndsByActs : Limits → Statement → Type 0
EndsByActs l s = (acts : List (ℕ × Act)) × (s ≡ statement_of (after_acts acts (new_pool l)))

-- so of two pools
pub record EndByActs (l k : Limits) (s t : Statement) : Type 0 where
  pub acts : List (ℕ × TwinAct)
  pub first : s ≡ first_statement (after_twin_acts acts (new_twin_pool l k))
  pub second : t ≡ second_statement (after_twin_acts acts (new_twin_pool l k))

-- On words: the statement of what a ground of these limits left, closed by the one seat that the
-- seats of all its workers were joined to, and of their caches and packets. What that seat has and
-- what it noted are theirs, all together.
pub record EndsOnWords (l : Limits) (s : Statement) : Type 0 where
  pub shared : Grounded
  pub workers : List WorkerState
  pub limits : shared.limits ≡ l
  pub all : AreWorkers shared workers
  pub statement : IsStatementOfWorkers shared workers s

-- so of two grounds
pub record EndOnWords (l k : Limits) (s t : Statement) : Type 0 where
  pub first_shared : Grounded
  pub second_shared : Grounded
  pub workers : List TwinState
  pub first_limits : first_shared.limits ≡ l
  pub second_limits : second_shared.limits ≡ k
  pub all : AreTwinWorkers first_shared second_shared workers
  pub statements : AreStatementsOfTwins first_shared second_shared workers (s, t)

-- what a run of a script's pools comes to, on either ground
abbrev pub ReachedByActs : Pools → Settled → Type 0
ReachedByActs = OfPools EndsByActs EndByActs

abbrev pub LeftOnWords : Pools → Settled → Type 0
LeftOnWords = OfPools EndsOnWords EndOnWords

-- The bytes are a script, and this is what its pools come to at the end of a run on such a ground.
-- That the acts are the script's isn't said.
pub record RunsTo (grounds : Grounds) (bytes : List ℕ) (s : Settled) : Type 0 where
  pub pools : Pools
  pub lines : List Line
  pub script : IsScript bytes pools lines
  pub reached : grounds ≡ Locked → ReachedByActs pools s
  pub ended : grounds ≡ Words → LeftOnWords pools s
