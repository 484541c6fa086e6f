-- How a script is read, as functions on lists, for the crate's own functions.
-- Of public clauses those alone cite this module that look at single words.
use Rattle.std.specs.Prelude.{ℕ, ◌+◌, ◌-◌, max, Bool, true, false, ◌&&◌, ◌||◌, if◌then◌else◌, ◌==◌, nat_le, nat_lt, List, [], ◌∷◌, length, Option, Some, None, is_none, option_and_then, Result, Ok, Err, take, drop, codes}
use Rattle.std.specs.Str.{bytes_eq}
use Rattle.commons.specs.declared.refusal.Refusal.{Refusal}
use Rattle.commons.specs.declared.refusal.Refusal.TheVariants.{BadPool, ScriptFault}
use Rattle.script_text.specs.declared.lines.Line.{Line}
use Rattle.script_text.specs.declared.pool_line.LineNumbers.{LineNumbers}
use Rattle.script_text.specs.Scripts.{Language, State, start, with_command}
use Rattle.script_text.specs.inside.Reading.{parts, is_plain, words_of, is_skipped, number_at, numbers_from, are_pools}

-- one kind of script, and how the words of its commands are read
pub record Lexicon (C : Type 0) : Type 1 where
  pub language : Language C
  -- the command that words are
  pub command_from : List (List ℕ) → Option C

-- ---- the worker in front of a command

-- the part of a word before a colon at its end
abbrev pub before_colon : List ℕ → Option (List ℕ)
before_colon word =
    if bytes_eq (drop (length word - 1) word) (codes ":") then Some (take (length word - 1) word)
    else None

-- the worker of this number, if there are that many
abbrev pub of_workers : ℕ → ℕ → Option ℕ
of_workers workers worker = if nat_le 1 worker && nat_le worker workers then Some worker else None

-- the worker whose number a word spells
abbrev pub worker_at : ℕ → List ℕ → Option ℕ
worker_at workers number = option_and_then (of_workers workers) (number_at number)

-- ---- names that were made, of which a test tells

-- one name of the worker more
abbrev pub with_name : (ℕ → List ℕ → Bool) → ℕ → List ℕ → ℕ → List ℕ → Bool
with_name made worker name w other = (w == worker && bytes_eq other name) || made w other

-- whether one of the names was made before, or stands after itself
abbrev pub repeats : (ℕ → List ℕ → Bool) → ℕ → List (List ℕ) → Bool
repeats made worker [] = false
repeats made worker (name ∷ names) = made worker name
    || repeats (with_name made worker name) worker names

-- whether the name is one of these
abbrev pub is_one_of : List (List ℕ) → List ℕ → Bool
is_one_of [] name = false
is_one_of (first ∷ names) name = bytes_eq name first || is_one_of names name

-- ---- the pools' numbers and refusals

-- whether pools have the numbers, if they are told
abbrev pub are_ready : Option LineNumbers → Bool
are_ready None = true
are_ready (Some numbers) = are_pools numbers

module _ {C : Type 0} where
  -- what is told after a pool line with these numbers
  abbrev pub with_numbers : State C → LineNumbers → State C
  with_numbers state numbers = record { numbers = Some numbers; lines = state.lines }

  -- what is told after these words, where no numbers are told, and a second pool is known or not
  abbrev pub read_pool : Bool → State C → List (List ℕ) → Option (State C)
  read_pool knows state words = option_and_then (λ numbers. Some (with_numbers state numbers))
      (numbers_from knows words)

  -- a line's reading, where pools have the numbers that it tells, or its refusal
  abbrev pub judged_as : ℕ → Option (State C) → Result (State C) Refusal
  judged_as number None = Err (ScriptFault number)
  judged_as number (Some next) = if are_ready next.numbers then Ok next else Err BadPool

  -- what is told once there is no line left
  abbrev pub finish : Option LineNumbers → State C → ℕ → List ℕ → Result (State C) Refusal
  finish numbers state number (byte ∷ bytes) = Err (ScriptFault number)
  finish None state number [] = Err (ScriptFault (max 1 (number - 1)))
  finish (Some numbers) state number [] = Ok state

  -- what comes of going on with what is told, unless it was refused
  abbrev pub goes_on : Result (State C) Refusal → (State C → Result (State C) Refusal) →
      Result (State C) Refusal
  goes_on (Ok next) f = f next
  goes_on (Err refusal) f = Err refusal

-- ---- a line, and lines one after another

module _ {C : Type 0} (lexicon : Lexicon C) where
  -- the command of words, with its worker
  abbrev pub command_of_worker : ℕ → List (List ℕ) → Option (ℕ × C)
  command_of_worker worker words = option_and_then (λ command. Some (worker, command))
      (lexicon.command_from words)

  -- the worker and the command of a line's words, with or without a worker's number in front
  abbrev pub command_by_prefix : ℕ → Option (List ℕ) → List (List ℕ) → List (List ℕ) → Option (ℕ × C)
  command_by_prefix workers None all behind = command_of_worker 1 all
  command_by_prefix workers (Some number) all behind =
      option_and_then (λ worker. command_of_worker worker behind) (worker_at workers number)

  -- the worker and the command that the words of a line are, in a pool of this many workers
  abbrev pub worker_command_from : ℕ → List (List ℕ) → Option (ℕ × C)
  worker_command_from workers [] = None
  worker_command_from workers (word ∷ words) = command_by_prefix workers (before_colon word) (word ∷ words) words

  -- whether one of the lines makes the worker's name
  abbrev pub is_made : List (Line C) → ℕ → List ℕ → Bool
  is_made [] worker name = false
  is_made (line ∷ lines) worker name =
      (worker == line.worker && is_one_of (lexicon.language.names_made line.command) name)
      || is_made lines worker name

  -- whether a command is of a second pool that isn't there
  abbrev pub lacks_second : LineNumbers → C → Bool
  lacks_second numbers command = lexicon.language.needs_second command && is_none numbers.second

  -- what is told after the worker's command on the line with this number,
  -- if it makes no name that was made before
  abbrev pub add_made : State C → ℕ → ℕ × C → Option (State C)
  add_made state number found =
      if repeats (is_made state.lines) found.0 (lexicon.language.names_made found.1) then None
      else Some (with_command state number found.0 found.1)

  -- what is told after the worker's command, if the pools have what it needs and it makes no name
  -- that was made before
  abbrev pub add_command : LineNumbers → State C → ℕ → ℕ × C → Option (State C)
  add_command numbers state number found =
      if lacks_second numbers found.1 then None else add_made state number found

  -- what is told after these words, where the pools' numbers are told
  abbrev pub read_command : LineNumbers → State C → ℕ → List (List ℕ) → Option (State C)
  read_command numbers state number words =
      if nat_lt (length state.lines) 10000
      then option_and_then (add_command numbers state number)
      (worker_command_from numbers.first.workers words)
      else None

  -- a line that isn't skipped, by whether the pools' numbers are told
  abbrev pub read_words : Option LineNumbers → State C → ℕ → List (List ℕ) → Option (State C)
  read_words None state number words = read_pool lexicon.language.knows_second state words
  read_words (Some numbers) state number words = read_command numbers state number words

  -- what is told after a line, if it has a reading
  unfoldable pub read_line : State C → ℕ → List ℕ → Option (State C)
  read_line state number line =
      if is_plain line then (if is_skipped (words_of line) then Some state
      else read_words state.numbers state number (words_of line)) else None

  -- what is told after a line, or its refusal
  unfoldable pub judged : State C → ℕ → List ℕ → Result (State C) Refusal
  judged state number line = judged_as number (read_line state number line)

  -- what is told after the lines and the rest, the first line having this number
  unfoldable pub read_lines : State C → ℕ → List (List ℕ) → List ℕ → Result (State C) Refusal
  read_lines state number [] rest = finish state.numbers state number rest
  read_lines state number (line ∷ lines) rest =
      goes_on (judged state number line) (λ next. read_lines next (number + 1) lines rest)

  -- what is told after a text, whose first line has this number
  unfoldable pub read_from : State C → ℕ → List ℕ → Result (State C) Refusal
  read_from state number bytes = read_lines state number (parts bytes).lines (parts bytes).rest

  -- what the bytes of a script are read as
  unfoldable pub read_text : List ℕ → Result (State C) Refusal
  read_text bytes = if nat_lt 1048576 (length bytes) then Err (ScriptFault 0)
      else read_from start 1 bytes
