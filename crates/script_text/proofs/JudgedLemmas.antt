-- How a line is judged, and the lines one after another.
use Rattle.std.proofs.Common.{◌≡◌, ℕ, ◌+◌, ◌-◌, ◌<◌, ◌≤◌, true, false, cond, ltb, List, [], ◌∷◌, length, Option, Some, None, Result, Ok, Err, refl, sym, ap, ◌∙◌, arith, max}
use Rattle.std.specs.Prelude.{option_and_then}
use Rattle.std.proofs.lemmas.Bool.{cond-true, cond-false, lt-ltb, le-ltb}
use Rattle.commons.specs.declared.refusal.Refusal.{Refusal}
use Rattle.commons.specs.declared.refusal.Refusal.TheVariants as refusals
use Rattle.script_text.specs.declared.lines.Line.{Line}
use Rattle.script_text.specs.declared.pool_line.LineNumbers.{LineNumbers}
use Rattle.script_text.specs.declared.reader.Stop.{Stop}
use Rattle.script_text.specs.declared.reader.Stop.TheVariants.{Fault, BadPool, OutOfMemory}
use Rattle.script_text.specs.Scripts.{State, start}
use Rattle.script_text.specs.inside.Reading.{Parts, parts, words_of, is_plain, is_skipped, numbers_from}
use Rattle.script_text.specs.inside.ScriptReading.{Lexicon, are_ready, with_numbers, read_pool, read_words, read_line, judged_as, judged, finish, goes_on, read_lines, read_from, read_text}
use Rattle.script_text.specs.inside.Agreement.{StopsPool, StopsCommand, StopsLine, Fails, refusal_at}
use Rattle.script_text.proofs.LineLemmas.{parts_of}

module _ {C : Type 0} (lexicon : Lexicon C) where
  -- ---- a line

  -- the reading of a plain line
  abbrev plain_line : State C → ℕ → List ℕ → Option (State C)
  plain_line s n line = cond (is_skipped (words_of line)) (Some s) (read_words lexicon s.numbers s n (words_of line))

  -- a plain line is skipped, or read by its words
  read_plain : (s : State C) (n : ℕ) (line : List ℕ) → is_plain line ≡ true → read_line lexicon s n line ≡ plain_line s n line
  unfolding read_line
  read_plain s n line e = cond-true (is_plain line) (plain_line s n line) None e

  -- a line that is too long or has another byte has no reading
  pub read_not_plain : (s : State C) (n : ℕ) (line : List ℕ) → is_plain line ≡ false → read_line lexicon s n line ≡ None
  unfolding read_line
  read_not_plain s n line e = cond-false (is_plain line) (plain_line s n line) None e

  -- a skipped line tells nothing
  pub read_skipped : (s : State C) (n : ℕ) (line : List ℕ) → is_plain line ≡ true →
      is_skipped (words_of line) ≡ true → read_line lexicon s n line ≡ Some s
  read_skipped s n line e f =
      read_plain s n line e
      ∙ cond-true (is_skipped (words_of line)) (Some s) (read_words lexicon s.numbers s n (words_of line)) f

  -- a plain line that isn't skipped is read by whether numbers are told
  pub read_as : (s : State C) (n : ℕ) (line : List ℕ) (o : Option LineNumbers) → is_plain line ≡ true →
      is_skipped (words_of line) ≡ false → s.numbers ≡ o →
      read_line lexicon s n line ≡ read_words lexicon o s n (words_of line)
  read_as s n line o e f g =
      read_plain s n line e
      ∙ cond-false (is_skipped (words_of line)) (Some s) (read_words lexicon s.numbers s n (words_of line)) f
      ∙ ap (λ (x : Option LineNumbers). read_words lexicon x s n (words_of line)) g

  -- ---- what a line's reading is judged as

  -- a reading whose numbers, if told, are those of pools goes on
  pub judged_ok : (s next : State C) (n : ℕ) (line : List ℕ) → read_line lexicon s n line ≡ Some next →
      are_ready next.numbers ≡ true → judged lexicon s n line ≡ Ok next
  unfolding judged
  judged_ok s next n line e f = ap (judged_as n) e ∙ cond-true (are_ready next.numbers) (Ok next) (Err refusals.BadPool) f

  -- a line without a reading is a fault with its number
  pub judged_fault : (s : State C) (n : ℕ) (line : List ℕ) → read_line lexicon s n line ≡ None →
      judged lexicon s n line ≡ Err (refusals.ScriptFault n)
  unfolding judged
  judged_fault s n line e = ap (judged_as n) e

  -- a reading whose numbers aren't those of pools is a bad pool
  pub judged_bad : (s next : State C) (n : ℕ) (line : List ℕ) → read_line lexicon s n line ≡ Some next →
      are_ready next.numbers ≡ false → judged lexicon s n line ≡ Err refusals.BadPool
  unfolding judged
  judged_bad s next n line e f = ap (judged_as n) e ∙ cond-false (are_ready next.numbers) (Ok next) (Err refusals.BadPool) f

  -- a command that stops a reader stops the line, as a fault or for lack of memory
  pub stops_command : (stop : Stop) (s : State C) (n : ℕ) (line : List ℕ) (read : Option (State C)) →
      read_line lexicon s n line ≡ read → StopsCommand stop read → StopsLine stop n (judged lexicon s n line)
  stops_command Fault s n line read e h = judged_fault s n line (e ∙ h)
  stops_command BadPool s n line read e h = absurd h
  stops_command OutOfMemory s n line read e h = tt

  -- a pool line that stops a reader stops the line, as a fault or a bad pool
  pub stops_pool : (stop : Stop) (s : State C) (n : ℕ) (line : List ℕ) →
      read_line lexicon s n line ≡ read_pool lexicon.language.knows_second s (words_of line) →
      StopsPool stop (numbers_from lexicon.language.knows_second (words_of line)) →
      StopsLine stop n (judged lexicon s n line)
  stops_pool Fault s n line e h = judged_fault s n line (e ∙ ap (option_and_then (λ numbers. Some (with_numbers s numbers))) h)
  stops_pool BadPool s n line e h =
      judged_bad s (with_numbers s h.0) n line
      (e ∙ ap (option_and_then (λ numbers. Some (with_numbers s numbers))) h.1) h.2
  stops_pool OutOfMemory s n line e h = absurd h

  -- ---- lines

  -- what is told after the lines and the rest of a text
  abbrev lines_of : State C → ℕ → Parts → Result (State C) Refusal
  lines_of s n p = read_lines lexicon s n p.lines p.rest

  -- a text's first line is judged, and then what is behind is read
  read_cut : (s : State C) (n : ℕ) (text line after : List ℕ) →
      parts text ≡ parts_of (line ∷ (parts after).lines) (parts after).rest →
      read_from lexicon s n text ≡ goes_on (judged lexicon s n line) (λ next. read_from lexicon next (n + 1) after)
  unfolding read_from read_lines
  read_cut s n text line after e = ap (lines_of s n) e

  -- where the first line isn't refused, what is behind is read with the next number
  pub read_more : (s next : State C) (n : ℕ) (text line after : List ℕ) →
      parts text ≡ parts_of (line ∷ (parts after).lines) (parts after).rest →
      judged lexicon s n line ≡ Ok next → read_from lexicon s n text ≡ read_from lexicon next (n + 1) after
  read_more s next n text line after e f =
      read_cut s n text line after e
      ∙ ap (λ (r : Result (State C) Refusal). goes_on r (λ next. read_from lexicon next (n + 1) after)) f

  -- where the first line is refused, so is the text
  read_stops : (s : State C) (n : ℕ) (text line after : List ℕ) (refusal : Refusal) →
      parts text ≡ parts_of (line ∷ (parts after).lines) (parts after).rest →
      judged lexicon s n line ≡ Err refusal → read_from lexicon s n text ≡ Err refusal
  read_stops s n text line after refusal e f =
      read_cut s n text line after e
      ∙ ap (λ (r : Result (State C) Refusal). goes_on r (λ next. read_from lexicon next (n + 1) after)) f

  -- a line that stops the reader gives the text the refusal with its number, or one for memory
  pub stops : (stop : Stop) (s : State C) (n : ℕ) (text line after : List ℕ)
      (whole : Result (State C) Refusal) →
      parts text ≡ parts_of (line ∷ (parts after).lines) (parts after).rest →
      StopsLine stop n (judged lexicon s n line) → read_from lexicon s n text ≡ whole → Fails (refusal_at stop n) whole
  stops Fault s n text line after whole e h w = sym w ∙ read_stops s n text line after (refusals.ScriptFault n) e h
  stops BadPool s n text line after whole e h w = sym w ∙ read_stops s n text line after refusals.BadPool e h
  stops OutOfMemory s n text line after whole e h w = tt

  -- where no line is left, only the end is looked at
  read_last : (s : State C) (n : ℕ) (text : List ℕ) → parts text ≡ parts_of [] text →
      read_from lexicon s n text ≡ finish s.numbers s n text
  unfolding read_from read_lines
  read_last s n text e = ap (lines_of s n) e

  -- bytes that are left behind the last line end are a fault
  finish_rest : (o : Option LineNumbers) (s : State C) (n : ℕ) (text : List ℕ) → 0 < length text →
      finish o s n text ≡ Err (refusals.ScriptFault n)
  finish_rest o s n [] lt = absurd (omega (arith, lt))
  finish_rest o s n (byte ∷ text) lt = refl

  -- where nothing is left the end is that of an empty rest
  finish_end : (o : Option LineNumbers) (s : State C) (n : ℕ) (text : List ℕ) → length text ≡ 0 →
      finish o s n text ≡ finish o s n []
  finish_end o s n [] e = refl
  finish_end o s n (byte ∷ text) e = absurd (omega (arith, e))

  -- a text whose rest has bytes is refused with the number of that line
  pub unfinished_rest : (s : State C) (n : ℕ) (text : List ℕ) (whole : Result (State C) Refusal) →
      parts text ≡ parts_of [] text → 0 < length text → read_from lexicon s n text ≡ whole →
      whole ≡ Err (refusals.ScriptFault n)
  unfinished_rest s n text whole e lt w = sym w ∙ read_last s n text e ∙ finish_rest s.numbers s n text lt

  -- a text that ends before a pool line is refused with the last line's number, or 1
  pub no_pool_line : (s : State C) (n : ℕ) (text : List ℕ) (whole : Result (State C) Refusal) →
      parts text ≡ parts_of [] text → length text ≡ 0 → s.numbers ≡ None → read_from lexicon s n text ≡ whole →
      whole ≡ Err (refusals.ScriptFault (max 1 (n - 1)))
  no_pool_line s n text whole e z none w =
      sym w ∙ read_last s n text e ∙ finish_end s.numbers s n text z
      ∙ ap (λ (o : Option LineNumbers). finish o s n []) none

  -- a text that ends behind its pool line is read as what its lines told
  pub whole_script : (s : State C) (n : ℕ) (text : List ℕ) (numbers : LineNumbers)
      (whole : Result (State C) Refusal) → parts text ≡ parts_of [] text → length text ≡ 0 →
      s.numbers ≡ Some numbers → read_from lexicon s n text ≡ whole → whole ≡ Ok s
  whole_script s n text numbers whole e z some w =
      sym w ∙ read_last s n text e ∙ finish_end s.numbers s n text z
      ∙ ap (λ (o : Option LineNumbers). finish o s n []) some

  -- ---- the whole text

  -- a text of more bytes than a script has is refused with 0
  pub text_too_long : (bytes : List ℕ) → 1048576 < length bytes → read_text lexicon bytes ≡ Err (refusals.ScriptFault 0)
  unfolding read_text
  text_too_long bytes lt =
      cond-true (ltb 1048576 (length bytes)) (Err (refusals.ScriptFault 0)) (read_from lexicon start 1 bytes)
      (lt-ltb 1048576 (length bytes) lt)

  -- a text of no more bytes is read by its lines, the first with the number 1
  pub text_short : (bytes : List ℕ) → length bytes ≤ 1048576 → read_text lexicon bytes ≡ read_from lexicon start 1 bytes
  unfolding read_text
  text_short bytes le =
      cond-false (ltb 1048576 (length bytes)) (Err (refusals.ScriptFault 0)) (read_from lexicon start 1 bytes)
      (le-ltb 1048576 (length bytes) le)

  -- what was told are these numbers and these lines, by their parts
  pub same_state : (s : State C) (numbers : LineNumbers) (lines : List (Line C)) (whole : Result (State C) Refusal) →
      s.numbers ≡ Some numbers → lines ≡ s.lines → whole ≡ Ok s →
      whole ≡ Ok (record { numbers = Some numbers; lines = lines })
  same_state s numbers lines whole e f w =
      w ∙ ap (λ (o : Option LineNumbers). Ok (record { numbers = o; lines = s.lines })) e
      ∙ ap (λ (ls : List (Line C)). Ok (record { numbers = Some numbers; lines = ls })) (sym f)
