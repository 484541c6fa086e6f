-- The form of scripts, whatever their lines tell workers to do: which bytes are which script, and
-- which line is the first faulty one. A step is a command here too.
use Rattle.std.specs.Prelude.{◌≡◌, ◌≢◌, ℕ, Bool, true, IsSome, ◌+◌, ◌-◌, ◌<◌, ◌≤◌, ◌⊎◌, max, List, [], ◌∷◌, ◌++◌, length, All, Option, Some, None, IfSome, codes}
use Rattle.script_text.specs.declared.lines.Pools.{Pools}
use Rattle.commons.specs.declared.refusal.Refusal.{Refusal}
use Rattle.commons.specs.declared.refusal.Refusal.TheVariants.{BadPool, OutOfMemory, ScriptFault}
use Rattle.script_text.specs.declared.lines.Line.{Line}
use Rattle.script_text.specs.declared.pool_line.LineNumbers.{LineNumbers}
use Rattle.script_text.specs.Numbers.{IsNumber}
use Rattle.script_text.specs.Text.{AreLines, IsPlain, Spells, IsSkipped}
use Rattle.script_text.specs.PoolLine.{IsPoolLine, AreSomePools, numbers_of_pools}

-- what the lines of one kind of script say, after the pool line and a worker's number
pub record Language (C : Type 0) : Type 1 where
  -- the words are this command
  pub IsCommand : List (List ℕ) → C → Type 0
  -- the names that a command makes
  pub names_made : C → List (List ℕ)
  -- whether the pool line may give a second pool, and whether a command is of one
  pub knows_second : Bool
  pub needs_second : C → Bool

-- each line is of a worker of the pool
abbrev pub AreOfPool : {C : Type 0} → ℕ → List (Line C) → Type 0
AreOfPool workers lines = All (λ line. (1 ≤ line.worker) × (line.worker ≤ workers)) lines

-- ---- a command line

-- the word is a worker's number, from 1 to that of the last, with a colon after it
pub record IsPrefix (word : List ℕ) (workers worker : ℕ) : Type 0 where
  pub number : List ℕ
  pub whole : word ≡ number ++ codes ":"
  pub is_number : IsNumber number worker
  pub first : 1 ≤ worker
  pub last : worker ≤ workers

-- the name is one of these
abbrev pub IsOneOf : List (List ℕ) → List ℕ → Type 0
IsOneOf [] name = ⊥
IsOneOf (first ∷ names) name = (first ≡ name) ⊎ IsOneOf names name

-- none of these stands twice
abbrev pub AreApart : List (List ℕ) → Type 0
AreApart [] = Unit {0}
AreApart (name ∷ names) = (IsOneOf names name → ⊥) × AreApart names

-- ---- what was told

-- what the lines so far have told: the pools' numbers, if the pool line was read, and the command
-- lines
pub record State (C : Type 0) : Type 0 where
  pub numbers : Option LineNumbers
  pub lines : List (Line C)

-- before the first line
abbrev pub start : {C : Type 0} → State C
start = record { numbers = None; lines = [] }

-- what is told after one command line more
abbrev pub with_command : {C : Type 0} → State C → ℕ → ℕ → C → State C
with_command state number worker command = record {
  numbers = state.numbers;
  lines = state.lines ++ record { number = number; worker = worker; command = command } ∷ [];
}

-- pools have the numbers, if they were told
abbrev pub IsReady : {C : Type 0} → State C → Type 0
IsReady state = IfSome state.numbers AreSomePools

-- the bytes are no more than a script has
abbrev pub IsShort : List ℕ → Type 0
IsShort bytes = length bytes ≤ 1048576

module _ {C : Type 0} (language : Language C) where
  -- the line is the pool line, which comes before each command
  pub record ReadsPool (before : State C) (line : List ℕ) (after : State C) : Type 0 where
    pub first : before.numbers ≡ None
    pub words : List (List ℕ)
    pub spelled : Spells line words
    pub numbers : LineNumbers
    pub is_pool_line : IsPoolLine language.knows_second words numbers
    pub after_is : after ≡ record { numbers = Some numbers; lines = before.lines }

  -- the words are a line of this worker, in a pool of this many workers, with this command
  pub data IsCommandLine (workers : ℕ) (words : List (List ℕ)) (worker : ℕ)
      (command : C) : Type 0 where
    -- a line that names no worker is of the first
    alone : worker ≡ 1 → language.IsCommand words command →
        IsCommandLine workers words worker command
    -- and one that does is of the worker that stands in front of the command
    prefixed : (word : List ℕ) → (rest : List (List ℕ)) → words ≡ word ∷ rest →
        IsPrefix word workers worker → language.IsCommand rest command →
        IsCommandLine workers words worker command

  -- one of the lines makes the worker's name
  abbrev pub IsMade : List (Line C) → ℕ → List ℕ → Type 0
  IsMade [] worker name = ⊥
  IsMade (line ∷ lines) worker name =
      ((line.worker ≡ worker) × IsOneOf (language.names_made line.command) name)
      ⊎ IsMade lines worker name

  -- no line has made before what the worker's command makes, and it makes each of its names once
  pub record MakesAnew (lines : List (Line C)) (worker : ℕ) (command : C) : Type 0 where
    pub new : (name : List ℕ) → IsOneOf (language.names_made command) name →
        IsMade lines worker name → ⊥
    pub once : AreApart (language.names_made command)

  -- the line is the next command, and the one with this number
  pub record ReadsCommand (before : State C) (number : ℕ) (line : List ℕ)
      (after : State C) : Type 0 where
    pub numbers : LineNumbers
    pub behind_pool : before.numbers ≡ Some numbers
    pub few : length before.lines < 10000
    pub words : List (List ℕ)
    pub spelled : Spells line words
    pub worker : ℕ
    pub command : C
    pub is_command_line : IsCommandLine numbers.first.workers words worker command
    pub has_second : language.needs_second command ≡ true → IsSome numbers.second
    pub anew : MakesAnew before.lines worker command
    pub after_is : after ≡ with_command before number worker command

  -- what a line is, where the lines before it told this
  pub data Takes (before : State C) (number : ℕ) (line : List ℕ) (after : State C) : Type 0 where
    skips : IsSkipped line → after ≡ before → Takes before number line after
    gives_pool : ReadsPool before line after → Takes before number line after
    commands : ReadsCommand before number line after → Takes before number line after

  -- the line has a reading, and this is what is told after it
  pub record Reads (before : State C) (number : ℕ) (line : List ℕ) (after : State C) : Type 0 where
    pub plain : IsPlain line
    pub takes : Takes before number line after

  -- the lines are read one after another, the first of them with this number
  abbrev pub AreRead : State C → ℕ → List (List ℕ) → State C → Type 0
  AreRead before number [] after = after ≡ before
  AreRead before number (line ∷ lines) after =
      (next : State C) × Reads before number line next × IsReady next
      × AreRead next (number + 1) lines after

  -- the bytes are the script with pools of these limits and with these command lines
  pub record IsScript (bytes : List ℕ) (pools : Pools) (lines : List (Line C)) : Type 0 where
    pub short : IsShort bytes
    pub texts : List (List ℕ)
    pub are_lines : AreLines bytes texts []
    pub read : AreRead start 1 texts
        (record { numbers = Some (numbers_of_pools pools); lines = lines })

  -- the lines before the one with this number are read, and then these lines and this rest are left
  pub record Reaches (bytes : List ℕ) (state : State C) (number : ℕ) (left : List (List ℕ))
      (rest : List ℕ) : Type 0 where
    pub before : List (List ℕ)
    pub are_lines : AreLines bytes (before ++ left) rest
    pub read : AreRead start 1 before state
    pub number_is : number ≡ length before + 1

  -- the line with this number has no reading, where each line before it has one
  pub record HasNoReading (bytes : List ℕ) (number : ℕ) : Type 0 where
    pub state : State C
    pub line : List ℕ
    pub left : List (List ℕ)
    pub rest : List ℕ
    pub reached : Reaches bytes state number (line ∷ left) rest
    pub none : (next : State C) → Reads state number line next → ⊥

  -- each line that is ended has a reading, and the line with this number isn't ended
  pub record IsUnfinished (bytes : List ℕ) (number : ℕ) : Type 0 where
    pub state : State C
    pub rest : List ℕ
    pub reached : Reaches bytes state number [] rest
    pub some : rest ≢ []

  -- each line is skipped, and this is the number of the last one, or 1 where there is none
  pub record HasNoPool (bytes : List ℕ) (number : ℕ) : Type 0 where
    pub state : State C
    pub behind : ℕ
    pub reached : Reaches bytes state behind [] []
    pub no_numbers : state.numbers ≡ None
    pub number_is : number ≡ max 1 (behind - 1)

  -- the first faulty line has this number; it is 0 where there are more bytes than a script has
  pub data IsFirstFault (bytes : List ℕ) (number : ℕ) : Type 0 where
    too_long : 1048576 < length bytes → number ≡ 0 → IsFirstFault bytes number
    no_reading : IsShort bytes → HasNoReading bytes number → IsFirstFault bytes number
    unfinished : IsShort bytes → IsUnfinished bytes number → IsFirstFault bytes number
    no_pool : IsShort bytes → HasNoPool bytes number → IsFirstFault bytes number

  -- the pool line has a reading, as each line before it, and no pools have its numbers
  pub record HasBadPool (bytes : List ℕ) : Type 0 where
    pub short : IsShort bytes
    pub state : State C
    pub number : ℕ
    pub line : List ℕ
    pub left : List (List ℕ)
    pub rest : List ℕ
    pub reached : Reaches bytes state number (line ∷ left) rest
    pub next : State C
    pub reads : Reads state number line next
    pub numbers : LineNumbers
    pub numbers_are : next.numbers ≡ Some numbers
    pub bad : AreSomePools numbers → ⊥

  -- why the bytes are refused; of a refusal for lack of memory nothing is said, and no other is
  -- given
  abbrev pub IsCause : List ℕ → Refusal → Type 0
  IsCause bytes BadPool = HasBadPool bytes
  IsCause bytes (ScriptFault number) = IsFirstFault bytes number
  IsCause bytes OutOfMemory = Unit {0}
  IsCause bytes _ = ⊥

  -- the bytes are some script
  pub record IsSomeScript (bytes : List ℕ) : Type 0 where
    pub pools : Pools
    pub lines : List (Line C)
    pub script : IsScript bytes pools lines

  -- some line of the bytes is the first faulty one
  pub record HasSomeFault (bytes : List ℕ) : Type 0 where
    pub number : ℕ
    pub fault : IsFirstFault bytes number
