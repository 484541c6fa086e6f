-- How what the crate's own functions return agrees with the functions on lists.
-- No public clause cites this module.
use Rattle.arrayvec.specs.ArrayVec.{ArrayVec}
use Rattle.std.specs.Prelude.{◌≡◌, ◌≤◌, ℕ, Bool, true, false, ◌&&◌, ◌==◌, nat_eq, List, [], Option, Some, None, option_map, Result, Ok, Err}
use Rattle.std.specs.List.{AllByRecursion}
use Rattle.std.specs.Cmp.Lexicographic.{pointwise}
use Rattle.std.specs.HashSet.{contains}
use Rattle.script_text.specs.declared.lines.Pools.{Pools}
use Rattle.commons.specs.declared.refusal.Refusal.{Refusal}
use Rattle.commons.specs.declared.refusal.Refusal.TheVariants as refusals
use Rattle.script_text.specs.declared.lines.Line.{Line}
use Rattle.script_text.specs.declared.lines.Script.{Script}
use Rattle.script_text.specs.declared.made_names.MadeNames.{MadeNames}
use Rattle.script_text.specs.declared.pool_line.LineNumbers.{LineNumbers}
use Rattle.script_text.specs.declared.reader.Reader.{Reader}
use Rattle.script_text.specs.declared.reader.Stop.{Stop}
use Rattle.script_text.specs.declared.reader.Stop.TheVariants.{Fault, BadPool, OutOfMemory}
use Rattle.script_text.specs.PoolLine.{numbers_of_pools}
use Rattle.script_text.specs.Scripts.{State}
use Rattle.script_text.specs.inside.Reading.{are_pools}
use Rattle.script_text.specs.inside.ScriptReading.{Lexicon, is_made, are_ready}

-- ---- names that were made

-- whether two keys are the same
abbrev pub same_made : ℕ × ArrayVec ℕ → ℕ × ArrayVec ℕ → Bool
same_made one other = one.0 == other.0 && pointwise nat_eq one.1.items other.1.items

-- whether the worker's name is there
unfoldable pub has_made : MadeNames → ℕ → List ℕ → Bool
has_made made worker name = contains same_made made.keys (worker, record { items = name })

-- the names are those that the lines make
abbrev pub AreMade : {C : Type 0} → Lexicon C → MadeNames → List (Line C) → Type 0
AreMade lexicon made lines =
    (worker : ℕ) (name : List ℕ) →
    has_made made worker name ≡ is_made lexicon lines worker name

-- ---- a reader

-- what the lines so far have told
abbrev pub state_of : {C : Type 0} → Reader C → State C
state_of reader = record {
  numbers = option_map numbers_of_pools reader.pools;
  lines = reader.lines.items;
}

-- the worker is one of this many
abbrev pub IsAmong : ℕ → ℕ → Type 0
IsAmong workers worker = (1 ≤ worker) × (worker ≤ workers)

-- no line comes before the pools, and then each is of one of their workers
abbrev pub AreWithin : {C : Type 0} → Option Pools → List (Line C) → Type 0
AreWithin None lines = lines ≡ []
AreWithin (Some pools) lines =
    AllByRecursion (λ line. IsAmong pools.first.workers line.worker) lines

-- what each reader keeps
pub record IsKept {C : Type 0} (lexicon : Lexicon C) (reader : Reader C) : Type 0 where
  pub ready : are_ready (option_map numbers_of_pools reader.pools) ≡ true
  pub workers : AreWithin reader.pools reader.lines.items
  pub made : AreMade lexicon reader.made reader.lines.items

-- why a pool line wasn't read
abbrev pub StopsPool : Stop → Option LineNumbers → Type 0
StopsPool Fault read = read ≡ None
StopsPool BadPool read =
    (numbers : LineNumbers) × (read ≡ Some numbers) × (are_pools numbers ≡ false)
StopsPool OutOfMemory read = ⊥

-- why a command line wasn't read
abbrev pub StopsCommand : {C : Type 0} → Stop → Option (State C) → Type 0
StopsCommand Fault read = read ≡ None
StopsCommand BadPool read = ⊥
StopsCommand OutOfMemory read = Unit {0}

-- why the line with this number wasn't read
abbrev pub StopsLine : {C : Type 0} → Stop → ℕ → Result (State C) Refusal → Type 0
StopsLine Fault number read = read ≡ Err (refusals.ScriptFault number)
StopsLine BadPool number read = read ≡ Err refusals.BadPool
StopsLine OutOfMemory number read = Unit {0}

-- the refusal for the line with this number
abbrev pub refusal_at : Stop → ℕ → Refusal
refusal_at Fault number = refusals.ScriptFault number
refusal_at BadPool number = refusals.BadPool
refusal_at OutOfMemory number = refusals.OutOfMemory

-- ---- a script

-- the reading was refused likewise; of a refusal for lack of memory nothing is said
abbrev pub Fails : {C : Type 0} → Refusal → Result (State C) Refusal → Type 0
Fails refusals.OutOfMemory read = Unit {0}
Fails refusal read = read ≡ Err refusal

-- what was returned is what the bytes are read as, unless memory was refused
abbrev pub Gives : {C : Type 0} → Result (Script C) Refusal → Result (State C) Refusal → Type 0
Gives (Ok script) read =
    read ≡ Ok (record { numbers = Some (numbers_of_pools script.pools); lines = script.lines })
Gives (Err refusal) read = Fails refusal read
