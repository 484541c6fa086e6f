-- A line's reading in the grammar is what the reading function gives, and so are the lines' one
-- after another.
use Rattle.std.proofs.Common.{◌≡◌, ℕ, true, false, cond, ltb, leb, List, length, Option, Some, None, refl, sym, ap, ◌∙◌, inl, inr}
use Rattle.std.specs.Prelude.{option_and_then, ◌&&◌, Bool, IsSome, is_none}
use Rattle.std.specs.List.{list_all}
use Rattle.std.proofs.lemmas.Bool.{cond-true, cond-false, cases_Bool, leb-true, le-leb, ltb-true, lt-ltb, and_parts, and_from}
use Rattle.script_text.specs.declared.pool_line.LineNumbers.{LineNumbers}
use Rattle.script_text.specs.declared.pool_line.PoolNumbers.{PoolNumbers}
use Rattle.script_text.specs.Text.{IsPrinted, IsPlain}
use Rattle.script_text.specs.Scripts.{State, with_command, ReadsPool, ReadsCommand, Takes, skips, gives_pool, commands, Reads}
use Rattle.script_text.specs.inside.Reading.{words_of, is_printed, is_plain, is_skipped, numbers_from}
use Rattle.script_text.specs.inside.ScriptReading.{Lexicon, repeats, worker_command_from, with_numbers, lacks_second, add_made, add_command, read_command, read_pool, read_words, read_line, is_made}
use Rattle.script_text.proofs.WordLemmas.{spelled_once, words_are, skipped_is, skipped_from}
use Rattle.script_text.proofs.NumberLemmas.{all_from, all_to, within_from, within_to}
use Rattle.script_text.proofs.PoolLineLemmas.{pool_line_from, pool_line_is}
use Rattle.script_text.proofs.WorkerCommandLemmas.{worker_command_comes, worker_command_is, counted_line}
use Rattle.script_text.proofs.JudgedLemmas.{read_skipped, read_as}
use Rattle.script_text.proofs.MakingLemmas.{anew_is, anew_from}
use Rattle.script_text.proofs.FoundLemmas.{and_then_some, found_is, if_some, if_none}
use Rattle.script_text.proofs.Right.{IsRight}

-- ---- one line

-- a line that passes the test is short enough, and each of its bytes is a space or printed
plain_from : (line : List ℕ) → is_plain line ≡ true → IsPlain line
plain_from line e =
    let h = and_parts (leb (length line) 8192) (list_all is_printed line) e in
    record {
      short = leb-true (length line) 8192 h.0;
      printed = all_from is_printed IsPrinted (λ byte p. within_from 32 126 byte p) line h.1;
    }

-- a short line of spaces and printed bytes passes each part of the test
plain_is : (line : List ℕ) → IsPlain line → is_plain line ≡ true
plain_is line h =
    and_from (leb (length line) 8192) (list_all is_printed line) (le-leb (length line) 8192 h.short)
    (all_to is_printed IsPrinted (λ byte p. within_to 32 126 byte p) line h.printed)

-- what is needed is there, where the test doesn't say that it is lacking
second_from : (needs : Bool) (second : Option PoolNumbers) → (needs && is_none second) ≡ false →
    needs ≡ true → IsSome second
second_from needs None e n = let clash = sym (ap (λ (b : Bool). b && true) n) ∙ e in absurd cc
second_from needs (Some numbers) e n = refl

-- where what is needed is there, the test doesn't say that it is lacking
second_is : (needs : Bool) (second : Option PoolNumbers) → (needs ≡ true → IsSome second) →
    (needs && is_none second) ≡ false
second_is true None h = let clash = h refl in absurd cc
second_is true (Some numbers) h = refl
second_is false None h = refl
second_is false (Some numbers) h = refl

module _ {C : Type 0} (lexicon : Lexicon C) (right : IsRight lexicon) where
  -- in front of the numbers what is read is the pool line
  pool_takes : (state after : State C) (number : ℕ) (line : List ℕ) → state.numbers ≡ None →
      read_pool lexicon.language.knows_second state (words_of line) ≡ Some after →
      Takes lexicon.language state number line after
  pool_takes state after number line none e =
      let l =
      and_then_some (λ numbers. Some (with_numbers state numbers))
      (numbers_from lexicon.language.knows_second (words_of line)) after e in
      gives_pool (record {
        first = none;
        words = words_of line;
        spelled = words_are line;
        numbers = l.0;
        is_pool_line = pool_line_from lexicon.language.knows_second (words_of line) l.0 l.1;
        after_is = sym (found_is (with_numbers state l.0) after l.2);
      })

  -- behind the pool line what is read is a command line: not one too many, its names made anew
  command_takes : (state after : State C) (number : ℕ) (line : List ℕ) (numbers : LineNumbers) →
      state.numbers ≡ Some numbers →
      read_command lexicon numbers state number (words_of line) ≡ Some after →
      Takes lexicon.language state number line after
  command_takes state after number line numbers some e =
      let few =
      if_some (ltb (length state.lines) 10000)
      (option_and_then (add_command lexicon numbers state number)
      (worker_command_from lexicon numbers.first.workers (words_of line))) after e in
      let c =
      and_then_some (add_command lexicon numbers state number)
      (worker_command_from lexicon numbers.first.workers (words_of line)) after few.1 in
      let second = if_none (lacks_second lexicon numbers c.0.1) (add_made lexicon state number c.0) after c.2 in
      let anew =
      if_none (repeats (is_made lexicon state.lines) c.0.0 (lexicon.language.names_made c.0.1))
      (Some (with_command state number c.0.0 c.0.1)) after second.1 in
      commands (record {
        numbers = numbers;
        behind_pool = some;
        few = ltb-true (length state.lines) 10000 few.0;
        words = words_of line;
        spelled = words_are line;
        worker = c.0.0;
        command = c.0.1;
        is_command_line = worker_command_comes lexicon right numbers.first.workers (words_of line) c.0 c.1;
        has_second = second_from (lexicon.language.needs_second c.0.1) numbers.second second.0;
        anew = anew_from lexicon state.lines c.0.0 c.0.1 anew.0;
        after_is = sym (found_is (with_command state number c.0.0 c.0.1) after anew.1);
      })

  -- whether numbers are told says whether a line is the pool line or a command
  words_take : (numbers : Option LineNumbers) (state after : State C) (number : ℕ) (line : List ℕ) →
      state.numbers ≡ numbers → read_words lexicon numbers state number (words_of line) ≡ Some after →
      Takes lexicon.language state number line after
  words_take None state after number line e h = pool_takes state after number line e h
  words_take (Some numbers) state after number line e h = command_takes state after number line numbers e h

  -- a line that is read is plain, and is skipped, or the pool line, or a command
  pub reads_from : (state after : State C) (number : ℕ) (line : List ℕ) →
      read_line lexicon state number line ≡ Some after → Reads lexicon.language state number line after
  unfolding read_line
  reads_from state after number line e =
      let plain =
      if_some (is_plain line) (cond (is_skipped (words_of line)) (Some state)
      (read_words lexicon state.numbers state number (words_of line))) after e in
      record {
        plain = plain_from line plain.0;
        takes = elim (cases_Bool (is_skipped (words_of line))) [
          | inl skipped ↦
              skips (skipped_from line skipped) (sym (found_is state after (sym
              (cond-true (is_skipped (words_of line)) (Some state)
              (read_words lexicon state.numbers state number (words_of line)) skipped) ∙ plain.1)))
          | inr counted ↦
              words_take state.numbers state after number line refl (sym (cond-false
              (is_skipped (words_of line)) (Some state)
              (read_words lexicon state.numbers state number (words_of line)) counted) ∙ plain.1)
        ];
      }

  -- a pool line of the grammar isn't skipped, and is read as its numbers
  pool_is_read : (state after : State C) (number : ℕ) (line : List ℕ) → IsPlain line →
      ReadsPool lexicon.language state line after → read_line lexicon state number line ≡ Some after
  pool_is_read state after number line plain h =
      let words : words_of line ≡ h.words = spelled_once h.words line h.spelled in
      let counted : is_skipped (words_of line) ≡ false = ap is_skipped (words ∙ h.is_pool_line.words_are) in
      read_as lexicon state number line None (plain_is line plain) counted h.first
      ∙ ap (option_and_then (λ numbers. Some (with_numbers state numbers)))
      (ap (numbers_from lexicon.language.knows_second) words
      ∙ pool_line_is lexicon.language.knows_second h.words h.numbers h.is_pool_line)
      ∙ ap (λ (s : State C). Some s) (sym h.after_is)

  -- a command line of the grammar isn't skipped, and is read as its worker's command
  command_is_read : (state after : State C) (number : ℕ) (line : List ℕ) → IsPlain line →
      ReadsCommand lexicon.language state number line after → read_line lexicon state number line ≡ Some after
  command_is_read state after number line plain h =
      let words : words_of line ≡ h.words = spelled_once h.words line h.spelled in
      let found : worker_command_from lexicon h.numbers.first.workers (words_of line) ≡ Some (h.worker, h.command) =
      ap (worker_command_from lexicon h.numbers.first.workers) words
      ∙ worker_command_is lexicon right h.numbers.first.workers h.words h.worker h.command h.is_command_line in
      let counted : is_skipped (words_of line) ≡ false =
      ap is_skipped words
      ∙ counted_line lexicon right h.numbers.first.workers h.words h.worker h.command h.is_command_line in
      read_as lexicon state number line (Some h.numbers) (plain_is line plain) counted h.behind_pool
      ∙ cond-true (ltb (length state.lines) 10000)
      (option_and_then (add_command lexicon h.numbers state number)
      (worker_command_from lexicon h.numbers.first.workers (words_of line)))
      None (lt-ltb (length state.lines) 10000 h.few)
      ∙ ap (option_and_then (add_command lexicon h.numbers state number)) found
      ∙ cond-false (lacks_second lexicon h.numbers h.command) None (add_made lexicon state number (h.worker, h.command))
      (second_is (lexicon.language.needs_second h.command) h.numbers.second h.has_second)
      ∙ cond-false (repeats (is_made lexicon state.lines) h.worker (lexicon.language.names_made h.command)) None
      (Some (with_command state number h.worker h.command))
      (anew_is lexicon state.lines h.worker h.command h.anew)
      ∙ ap (λ (s : State C). Some s) (sym h.after_is)

  -- each of the three things that a line can be is read as that
  takes_is_read : (state after : State C) (number : ℕ) (line : List ℕ) → IsPlain line →
      Takes lexicon.language state number line after → read_line lexicon state number line ≡ Some after
  takes_is_read state after number line plain (skips skipped after_is) =
      read_skipped lexicon state number line (plain_is line plain) (skipped_is line skipped)
      ∙ ap (λ (s : State C). Some s) (sym after_is)
  takes_is_read state after number line plain (gives_pool h) = pool_is_read state after number line plain h
  takes_is_read state after number line plain (commands h) = command_is_read state after number line plain h

  -- a line's reading in the grammar is the one that the function gives
  pub reads_is : (state after : State C) (number : ℕ) (line : List ℕ) → Reads lexicon.language state number line after →
      read_line lexicon state number line ≡ Some after
  reads_is state after number line h = takes_is_read state after number line h.plain h.takes
