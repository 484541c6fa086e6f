-- The snapshots that a script's pools leave: what audits of these read. A line of JSON for each.
use Rattle.std.specs.Prelude.{ℕ, ◌≡◌, ◌++◌, List, [], Option, None, Some, codes, option_map}
use Rattle.pool_statement.specs.declared.settled.Settled.{Settled}
use Rattle.script.specs.Replay.{One, Stock, Two, end_of, new_run, settled_of}
use Rattle.script.specs.Running.{LeftOnWords, ReachedByActs}
use Rattle.script.specs.declared.snapshots.Snapshots.{Snapshots}
use Rattle.script.specs.declared.threaded.Grounds.{Grounds}
use Rattle.script.specs.declared.threaded.Grounds.TheVariants.{Words, Locked}
use Rattle.script_text.specs.declared.lines.Pools.{Pools}
use Rattle.script_text.specs.Commands.{Line}
use Rattle.script_text.specs.Grammar.{IsScript}
use Rattle.snapshot.specs.Closing.{snapshot_in}
use Rattle.snapshot.specs.Snapshots.{IsLawful, statement_in}
use Rattle.snapshot.specs.declared.snapshot.Snapshot.{Snapshot}
use Rattle.snapshot_json.specs.SnapshotData.{json_of}

-- the statements that audits of them give
abbrev pub settled_in : Snapshots → Settled
settled_in s = record { first = statement_in s.first; second = option_map statement_in s.second }

-- a second one is lawful, where there is one
abbrev pub IsLawfulBeside : Option Snapshot → Type 0
IsLawfulBeside None = Unit {0}
IsLawfulBeside (Some s) = IsLawful s

-- the limits of the pools that they are of
abbrev pub limits_of : Snapshots → Pools
limits_of s = record { first = s.first.limits; second = option_map (λ (t : Snapshot). t.limits) s.second }

-- each is lawful
pub record AreLawful (s : Snapshots) : Type 0 where
  pub first : IsLawful s.first
  pub second : IsLawfulBeside s.second

-- the text of a second one, where there is one
abbrev pub text_beside : Option Snapshot → List ℕ
text_beside None = []
text_beside (Some s) = json_of s ++ codes "\n"

-- the text of snapshots: a line for each, the first pool's first
abbrev pub text_of : Snapshots → List ℕ
text_of s = (json_of s.first ++ codes "\n") ++ text_beside s.second

-- a pool alone leaves exactly this: what its shared part leaves, and the shares of its workers
abbrev pub IsOfOne : Stock → Snapshots → Type 0
IsOfOne (One pool) s = s ≡ record { first = snapshot_in pool; second = None }
IsOfOne (Two twins) s = Unit {0}

-- What pools of the reference model leave: lawful snapshots, whose statements are those that the
-- pools come to.
pub record Leaves (stock : Stock) (s : Snapshots) : Type 0 where
  pub lawful : AreLawful s
  pub settled : settled_in s ≡ settled_of stock
  pub of_one : IsOfOne stock s

-- This is the text of what a script's pools leave at the end of its replay: of snapshots with the
-- script's limits.
pub record IsTextOfEnd (pools : Pools) (lines : List Line) (out : List ℕ) : Type 0 where
  pub snapshots : Snapshots
  pub left : Leaves (end_of lines (new_run pools)).stock snapshots
  pub limits : limits_of snapshots ≡ pools
  pub printed : out ≡ text_of snapshots

-- the bytes are a script, and this is the text of what its pools leave at the end of its replay
pub record IsSnapshotFor (bytes out : List ℕ) : Type 0 where
  pub pools : Pools
  pub lines : List Line
  pub script : IsScript bytes pools lines
  pub ended : IsTextOfEnd pools lines out

-- What a script's pools leave at the end of a run in threads on such a ground: lawful snapshots with
-- the script's limits, whose statements are what the pools come to there.
pub record AreLeftByRun (grounds : Grounds) (pools : Pools) (s : Snapshots) : Type 0 where
  pub lawful : AreLawful s
  pub limits : limits_of s ≡ pools
  pub reached : grounds ≡ Locked → ReachedByActs pools (settled_in s)
  pub ended : grounds ≡ Words → LeftOnWords pools (settled_in s)

-- this is the text of what a script's pools leave at the end of such a run
pub record IsTextOfRun (grounds : Grounds) (pools : Pools) (out : List ℕ) : Type 0 where
  pub snapshots : Snapshots
  pub left : AreLeftByRun grounds pools snapshots
  pub printed : out ≡ text_of snapshots

-- the bytes are a script, and this is the text of what its pools leave at the end of such a run
pub record IsRunSnapshotFor (grounds : Grounds) (bytes out : List ℕ) : Type 0 where
  pub pools : Pools
  pub lines : List Line
  pub script : IsScript bytes pools lines
  pub ended : IsTextOfRun grounds pools out
