-- Each text is a script of the grammar, or has a first faulty line, or has a bad pool.
use Rattle.std.proofs.Common.{◌≡◌, ◌≢◌, ℕ, ◌+◌, ◌-◌, max, ltb, Bool, true, false, cond, List, [], ◌∷◌, length, Option, Some, None, Result, Ok, Err, refl, ap, inl, inr}
use Rattle.std.specs.Prelude.{◌⊎◌}
use Rattle.commons.specs.declared.refusal.Refusal.{Refusal}
use Rattle.commons.specs.declared.refusal.Refusal.TheVariants as refusals
use Rattle.script_text.specs.declared.pool_line.LineNumbers.{LineNumbers}
use Rattle.script_text.specs.Scripts.{State, start, HasBadPool, IsCause, IsSomeScript, HasSomeFault}
use Rattle.script_text.specs.inside.Reading.{parts}
use Rattle.script_text.specs.inside.ScriptReading.{Lexicon, are_ready, read_line, judged_as, judged, finish, goes_on, read_lines, read_from, read_text}
use Rattle.script_text.proofs.ScriptLemmas.{some_script, cause_from}
use Rattle.script_text.proofs.Right.{IsRight}

module _ {C : Type 0} (lexicon : Lexicon C) (right : IsRight lexicon) where
  -- a refusal for lack of memory
  abbrev wants_memory : Result (State C) Refusal
  wants_memory = Err refusals.OutOfMemory

  -- something was read, or was refused, but not for lack of memory
  abbrev IsAnswer : Result (State C) Refusal → Type 0
  IsAnswer (Ok state) = Unit {0}
  IsAnswer (Err refusal) = refusal ≢ refusals.OutOfMemory

  -- a faulty line is no lack of memory
  fault_answers : (number : ℕ) → refusals.ScriptFault number ≢ refusals.OutOfMemory
  fault_answers number e = cc

  -- a reading goes on, or finds a bad pool
  ready_answers : (b : Bool) (next : State C) → cond b (Ok next) (Err refusals.BadPool) ≢ wants_memory
  ready_answers true next e = cc
  ready_answers false next e = cc

  -- a line goes on, is a fault or finds a bad pool, and never lacks memory
  judged_answers : (o : Option (State C)) (number : ℕ) → judged_as number o ≢ wants_memory
  judged_answers None number e = cc
  judged_answers (Some next) number e = ready_answers (are_ready next.numbers) next e

  -- at the end a pool's numbers are told, or a line isn't ended, or no pool line was read
  finish_answers : (o : Option LineNumbers) (state : State C) (number : ℕ) (rest : List ℕ) →
      IsAnswer (finish o state number rest)
  finish_answers None state number [] = fault_answers (max 1 (number - 1))
  finish_answers (Some numbers) state number [] = tt
  finish_answers None state number (byte ∷ rest) = fault_answers number
  finish_answers (Some numbers) state number (byte ∷ rest) = fault_answers number

  -- where no line lacks memory, what comes of going on doesn't
  goes_answers : (r : Result (State C) Refusal) (f : State C → Result (State C) Refusal) → r ≢ wants_memory →
      ((next : State C) → IsAnswer (f next)) → IsAnswer (goes_on r f)
  goes_answers (Ok next) f h k = k next
  goes_answers (Err refusal) f h k = λ e. h (ap (λ (x : Refusal). Err x) e)

  -- lines one after another give an answer, as each line does and the end
  lines_answer : (lines : List (List ℕ)) (state : State C) (number : ℕ) (rest : List ℕ) →
      IsAnswer (read_lines lexicon state number lines rest)
  unfolding read_lines judged
  lines_answer [] state number rest = finish_answers state.numbers state number rest
  lines_answer (line ∷ lines) state number rest =
      goes_answers (judged lexicon state number line) (λ next. read_lines lexicon next (number + 1) lines rest)
      (judged_answers (read_line lexicon state number line) number)
      (λ next. lines_answer lines next (number + 1) rest)

  -- a text that is too long is a fault, which is an answer
  short_answers : (b : Bool) (read : Result (State C) Refusal) → IsAnswer read →
      IsAnswer (cond b (Err (refusals.ScriptFault 0)) read)
  short_answers true read h = fault_answers 0
  short_answers false read h = h

  -- each text has an answer by its lines, or is too long
  text_answers : (bytes : List ℕ) → IsAnswer (read_text lexicon bytes)
  unfolding read_text read_from
  text_answers bytes =
      short_answers (ltb 1048576 (length bytes)) (read_from lexicon start 1 bytes)
      (lines_answer (parts bytes).lines start 1 (parts bytes).rest)

  -- a cause other than lack of memory is a faulty line or a bad pool
  fault_or_pool : (refusal : Refusal) (bytes : List ℕ) → refusal ≢ refusals.OutOfMemory →
      IsCause lexicon.language bytes refusal → HasSomeFault lexicon.language bytes ⊎ HasBadPool lexicon.language bytes
  fault_or_pool refusals.BadPool bytes h cause = inr cause
  fault_or_pool (refusals.ScriptFault number) bytes h cause = inl (record { number = number; fault = cause })
  fault_or_pool refusals.OutOfMemory bytes h cause = absurd (h refl)
  fault_or_pool refusal bytes h cause = absurd cause

  -- what was read is a script of the grammar, and what was refused has its cause
  read_by : (read : Result (State C) Refusal) (bytes : List ℕ) → read_text lexicon bytes ≡ read → IsAnswer read →
      IsSomeScript lexicon.language bytes ⊎ (HasSomeFault lexicon.language bytes ⊎ HasBadPool lexicon.language bytes)
  read_by (Ok state) bytes e h = inl (some_script lexicon right bytes state e)
  read_by (Err refusal) bytes e h = inr (fault_or_pool refusal bytes h (cause_from lexicon right bytes refusal e))

  -- a text has an answer, which is a script of the grammar, or a fault, or a bad pool
  pub script_or_fault : (bytes : List ℕ) →
      IsSomeScript lexicon.language bytes ⊎ (HasSomeFault lexicon.language bytes
      ⊎ HasBadPool lexicon.language bytes)
  script_or_fault bytes = read_by (read_text lexicon bytes) bytes refl (text_answers bytes)
