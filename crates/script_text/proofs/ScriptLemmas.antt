-- What the bytes are read as is a script of the grammar, or its first fault, and no script of the
-- grammar is read otherwise.
use Rattle.std.proofs.Common.{◌≡◌, ◌≢◌, ℕ, ◌+◌, ◌-◌, max, true, false, List, [], ◌∷◌, ◌++◌, length, Option, Some, None, Result, Ok, Err, refl, sym, ap, ◌∙◌, subst, append_assoc, arith, inl, inr}
use Rattle.std.specs.Prelude.{◌⊎◌, IfSome, IfOk, IfErr, MatchResult}
use Rattle.std.proofs.lemmas.Bool.{cases_Bool, cases_lt, both_ways, false_from_ne_true, cond-true, cond-false}
use Rattle.std.proofs.lemmas.List.{length_push}
use Rattle.script_text.specs.declared.lines.Pools.{Pools}
use Rattle.commons.specs.declared.refusal.Refusal.{Refusal}
use Rattle.commons.specs.declared.refusal.Refusal.TheVariants as refusals
use Rattle.script_text.specs.declared.lines.Line.{Line}
use Rattle.script_text.specs.declared.lines.Script.{Script}
use Rattle.script_text.specs.declared.pool_line.LineNumbers.{LineNumbers}
use Rattle.script_text.specs.PoolLine.{AreSomePools, numbers_of_pools}
use Rattle.script_text.specs.Text.{AreLines}
use Rattle.script_text.specs.Scripts.{State, start, Reads, IsReady, AreRead, IsShort, IsScript, Reaches, IsFirstFault, too_long, no_reading, unfinished, no_pool, HasBadPool, IsCause, IsSomeScript}
use Rattle.script_text.specs.inside.Reading.{parts, are_pools}
use Rattle.script_text.specs.inside.ScriptReading.{Lexicon, are_ready, read_line, judged_as, judged, finish, goes_on, read_lines, read_from, read_text}
use Rattle.script_text.specs.inside.Agreement.{Fails, Gives}
use Rattle.script_text.proofs.LineLemmas.{parts_are, lines_once}
use Rattle.script_text.proofs.PoolLemmas.{pools_once, pools_are, pools_from, ready_is, ready_from}
use Rattle.script_text.proofs.GrammarLemmas.{reads_from, reads_is}
use Rattle.script_text.proofs.JudgedLemmas.{judged_ok, judged_bad, text_too_long, text_short}
use Rattle.script_text.proofs.FoundLemmas.{found_is}
use Rattle.script_text.proofs.Right.{IsRight}

module _ {C : Type 0} (lexicon : Lexicon C) (right : IsRight lexicon) where
  -- ---- what was read, or refused

  abbrev read_ok : State C → Result (State C) Refusal
  read_ok s = Ok s

  abbrev read_err : Refusal → Result (State C) Refusal
  read_err refusal = Err refusal

  ok_is : (s t : State C) → read_ok s ≡ read_ok t → s ≡ t
  ok_is s t e = cc

  err_is : (a b : Refusal) → read_err a ≡ read_err b → a ≡ b
  err_is a b e = cc

  -- ---- one line

  -- the line has this reading, and pools have its numbers
  record IsJudged (state next : State C) (number : ℕ) (line : List ℕ) : Type 0 where
    reads : Reads lexicon.language state number line next
    ready : IsReady next

  -- only a reading whose numbers, if told, are those of pools isn't refused
  judged_gives : (o : Option (State C)) (number : ℕ) (next : State C) → judged_as number o ≡ Ok next →
      (o ≡ Some next) × (are_ready next.numbers ≡ true)
  judged_gives None number next e = absurd cc
  judged_gives (Some other) number next e = elim (cases_Bool (are_ready other.numbers)) [
    | inl ready ↦
        let same : other ≡ next =
        ok_is other next
        (sym (cond-true (are_ready other.numbers) (Ok other) (Err refusals.BadPool) ready) ∙ e)
        in
        (ap (λ (s : State C). Some s) same, ap (λ (s : State C). are_ready s.numbers) (sym same) ∙ ready)
    | inr bad ↦ let clash : read_err refusals.BadPool ≡ read_ok next =
        sym (cond-false (are_ready other.numbers) (Ok other) (Err refusals.BadPool) bad)
        ∙ e in absurd cc
  ]

  -- a line that isn't refused has a reading in the grammar, ready to be that of pools
  judged_from : (state next : State C) (number : ℕ) (line : List ℕ) → judged lexicon state number line ≡ Ok next →
      -- the line has a reading, and what is told then can be that of pools
      IsJudged state next number line
  unfolding judged
  judged_from state next number line e =
      let h = judged_gives (read_line lexicon state number line) number next e in
      record { reads = reads_from lexicon right state next number line h.0; ready = ready_from next.numbers h.1 }

  -- a line's reading in the grammar, ready to be that of pools, is what is told after it
  judged_is : (state next : State C) (number : ℕ) (line : List ℕ) → Reads lexicon.language state number line next →
      IsReady next → judged lexicon state number line ≡ Ok next
  judged_is state next number line reads ready =
      judged_ok lexicon state next number line (reads_is lexicon right state next number line reads)
      (ready_is next.numbers ready)

  -- a line is refused where it has no reading, or where the numbers aren't those of pools
  judged_refuses : (o : Option (State C)) (number : ℕ) (refusal : Refusal) →
      judged_as number o ≡ Err refusal →
      ((o ≡ None) × (refusals.ScriptFault number ≡ refusal))
      ⊎ ((next : State C) × (o ≡ Some next) × (are_ready next.numbers ≡ false)
      × (refusals.BadPool ≡ refusal))
  judged_refuses None number refusal e = inl (refl, err_is (refusals.ScriptFault number) refusal e)
  judged_refuses (Some next) number refusal e = elim (cases_Bool (are_ready next.numbers)) [
    | inl ready ↦ let clash : read_ok next ≡ read_err refusal =
        sym (cond-true (are_ready next.numbers) (Ok next) (Err refusals.BadPool) ready)
        ∙ e in absurd cc
    | inr bad ↦
        inr (
          next,
          refl,
          bad,
          err_is refusals.BadPool refusal
              (sym (cond-false (are_ready next.numbers) (Ok next) (Err refusals.BadPool) bad) ∙ e),
        )
  ]

  -- ---- lines one after another

  -- lines that are read in the grammar are read so, one after another
  lines_is : (lines : List (List ℕ)) (state last : State C) (number : ℕ) (numbers : LineNumbers) →
      AreRead lexicon.language state number lines last → last.numbers ≡ Some numbers →
      read_lines lexicon state number lines [] ≡ Ok last
  unfolding read_lines
  lines_is [] state last number numbers h e =
      ap (λ (o : Option LineNumbers). finish o state number []) (ap (λ (s : State C). s.numbers) (sym h) ∙ e)
      ∙ ap read_ok (sym h)
  lines_is (line ∷ lines) state last number numbers h e =
      ap (λ (r : Result (State C) Refusal). goes_on r (λ next. read_lines lexicon next (number + 1) lines []))
      (judged_is state h.0 number line h.1 h.2)
      ∙ lines_is lines h.0 last (number + 1) numbers h.3 e

  -- what a reading of lines says
  record ReadAll (state last : State C) (number : ℕ) (lines : List (List ℕ)) (rest : List ℕ) : Type 0 where
    are_read : AreRead lexicon.language state number lines last
    none : rest ≡ []
    numbers : LineNumbers
    numbers_are : last.numbers ≡ Some numbers

  -- a text ends well where nothing is left behind its last line and a pool line was read
  finish_from : (o : Option LineNumbers) (state last : State C) (number : ℕ) (rest : List ℕ) →
      state.numbers ≡ o → finish o state number rest ≡ Ok last → ReadAll state last number [] rest
  finish_from None state last number [] some e = absurd cc
  finish_from (Some numbers) state last number [] some e =
      let same = ok_is state last e in
      record {
        are_read = sym same;
        none = refl;
        numbers = numbers;
        numbers_are = ap (λ (s : State C). s.numbers) (sym same) ∙ some;
      }
  finish_from None state last number (byte ∷ rest) some e = absurd cc
  finish_from (Some numbers) state last number (byte ∷ rest) some e = absurd cc

  -- what came of going on came of what wasn't refused
  goes_from : (r : Result (State C) Refusal) (f : State C → Result (State C) Refusal) (last : State C) →
      goes_on r f ≡ Ok last → (next : State C) × (r ≡ Ok next) × (f next ≡ Ok last)
  goes_from (Ok next) f last e = (next, refl, e)
  goes_from (Err refusal) f last e = absurd cc

  -- lines that are read to the end each have a reading, and the pools' numbers are told
  lines_from : (lines : List (List ℕ)) (state last : State C) (number : ℕ) (rest : List ℕ) →
      read_lines lexicon state number lines rest ≡ Ok last → ReadAll state last number lines rest
  unfolding read_lines
  lines_from [] state last number rest e = finish_from state.numbers state last number rest refl e
  lines_from (line ∷ lines) state last number rest e =
      let a = goes_from (judged lexicon state number line) (λ next. read_lines lexicon next (number + 1) lines rest) last e in
      let one = judged_from state a.0 number line a.1 in
      let more = lines_from lines a.0 last (number + 1) rest a.2 in
      record {
        are_read = (a.0, one.reads, one.ready, more.are_read);
        none = more.none;
        numbers = more.numbers;
        numbers_are = more.numbers_are;
      }

  -- ---- what comes first

  -- one line more, with the next number, behind those that are read
  AreRead-push : (before : List (List ℕ)) (from state next : State C) (number at : ℕ) (line : List ℕ) →
      AreRead lexicon.language from number before state → at ≡ number + length before → Reads lexicon.language state at line next →
      IsReady next → AreRead lexicon.language from number (before ++ line ∷ []) next
  AreRead-push [] from state next number at line h at_is reads ready =
      let same : at ≡ number = omega (arith, at_is) in (
        next,
        subst (λ (k : ℕ). Reads lexicon.language from k line next) same
            (subst (λ (s : State C). Reads lexicon.language s at line next) h reads),
        ready,
        refl,
      )
  AreRead-push (first ∷ before) from state next number at line h at_is reads ready = (
    h.0,
    h.1,
    h.2,
    AreRead-push before h.0 state next (number + 1) at line h.3
        (let later : at ≡ number + 1 + length before = omega (arith, at_is) in later) reads
        ready,
  )

  -- once a line is read, the lines before the next number are read
  Reaches-more : (bytes : List ℕ) (state next : State C) (number : ℕ) (line : List ℕ)
      (left : List (List ℕ)) (rest : List ℕ) → Reaches lexicon.language bytes state number (line ∷ left) rest →
      Reads lexicon.language state number line next → IsReady next → Reaches lexicon.language bytes next (number + 1) left rest
  Reaches-more bytes state next number line left rest h reads ready = record {
    before = h.before ++ line ∷ [];
    are_lines =
        subst (λ (lines : List (List ℕ)). AreLines bytes lines rest)
        (sym (append_assoc h.before (line ∷ []) left)) h.are_lines;
    read =
        AreRead-push h.before start state next 1 number line h.read
        (let place : number ≡ 1 + length h.before = omega (arith, h.number_is) in place) reads
        ready;
    number_is =
        let place : number + 1 ≡ length (h.before ++ line ∷ []) + 1 =
        omega (arith, h.number_is, length_push h.before line) in
        place;
  }

  -- numbers that don't pass the test are there, and no pools have them
  bad_numbers : (o : Option LineNumbers) → are_ready o ≡ false →
      (numbers : LineNumbers) × (o ≡ Some numbers) × (AreSomePools numbers → ⊥)
  bad_numbers None e = absurd cc
  bad_numbers (Some numbers) e = (numbers, refl, λ pool. both_ways (are_pools numbers) e (pools_are numbers pool))

  -- a text ends badly where its last line isn't ended, or where every line is skipped
  finish_cause : (o : Option LineNumbers) (bytes : List ℕ) (state : State C) (number : ℕ) (rest : List ℕ)
      (refusal : Refusal) → IsShort bytes → state.numbers ≡ o → Reaches lexicon.language bytes state number [] rest →
      finish o state number rest ≡ Err refusal → IsCause lexicon.language bytes refusal
  finish_cause None bytes state number [] refusal short none reached e =
      subst (IsCause lexicon.language bytes) (err_is (refusals.ScriptFault (max 1 (number - 1))) refusal e)
      (no_pool short (record { state = state; behind = number; reached = reached; no_numbers = none; number_is = refl }))
  finish_cause (Some numbers) bytes state number [] refusal short some reached e = absurd cc
  finish_cause None bytes state number (byte ∷ rest) refusal short none reached e =
      subst (IsCause lexicon.language bytes) (err_is (refusals.ScriptFault number) refusal e)
      (unfinished short (record {
        state = state;
        rest = byte ∷ rest;
        reached = reached;
        some = λ nothing. let clash = nothing in absurd cc;
      }))
  finish_cause (Some numbers) bytes state number (byte ∷ rest) refusal short some reached e =
      subst (IsCause lexicon.language bytes) (err_is (refusals.ScriptFault number) refusal e)
      (unfinished short (record {
        state = state;
        rest = byte ∷ rest;
        reached = reached;
        some = λ nothing. let clash = nothing in absurd cc;
      }))

  -- a refusal is the first line's, or a later one's
  goes_cause : (r : Result (State C) Refusal) (f : State C → Result (State C) Refusal) (refusal : Refusal) →
      goes_on r f ≡ Err refusal →
      (r ≡ Err refusal) ⊎ ((next : State C) × (r ≡ Ok next) × (f next ≡ Err refusal))
  goes_cause (Ok next) f refusal e = inr (next, refl, e)
  goes_cause (Err other) f refusal e = inl e

  -- the line before which all are read has no reading, or is the pool line of a bad pool
  judged_cause : (bytes : List ℕ) (state : State C) (number : ℕ) (line : List ℕ) (left : List (List ℕ))
      (rest : List ℕ) (refusal : Refusal) → IsShort bytes →
      Reaches lexicon.language bytes state number (line ∷ left) rest → judged lexicon state number line ≡ Err refusal →
      IsCause lexicon.language bytes refusal
  unfolding judged
  judged_cause bytes state number line left rest refusal short reached e =
      elim (judged_refuses (read_line lexicon state number line) number refusal e) [
        | inl h ↦ subst (IsCause lexicon.language bytes) h.1 (no_reading short (record {
          state = state;
          line = line;
          left = left;
          rest = rest;
          reached = reached;
          none = λ next reads. let clash = sym h.0 ∙ reads_is lexicon right state next number line reads in absurd cc;
        }))
        | inr h ↦
            let bad = bad_numbers h.0.numbers h.2 in
            subst (IsCause lexicon.language bytes) h.3 (record {
              short = short;
              state = state;
              number = number;
              line = line;
              left = left;
              rest = rest;
              reached = reached;
              next = h.0;
              reads = reads_from lexicon right state h.0 number line h.1;
              numbers = bad.0;
              numbers_are = bad.1;
              bad = bad.2;
            })
      ]

  -- of lines one after another the first refused one is the cause, or else the end
  lines_cause : (lines : List (List ℕ)) (bytes : List ℕ) (state : State C) (number : ℕ) (rest : List ℕ)
      (refusal : Refusal) → IsShort bytes → Reaches lexicon.language bytes state number lines rest →
      read_lines lexicon state number lines rest ≡ Err refusal → IsCause lexicon.language bytes refusal
  unfolding read_lines
  lines_cause [] bytes state number rest refusal short reached e =
      finish_cause state.numbers bytes state number rest refusal short refl reached e
  lines_cause (line ∷ lines) bytes state number rest refusal short reached e =
      elim (goes_cause (judged lexicon state number line) (λ next. read_lines lexicon next (number + 1) lines rest) refusal e) [
        | inl h ↦ judged_cause bytes state number line lines rest refusal short reached h
        | inr h ↦
            let one = judged_from state h.0 number line h.1 in
            lines_cause lines bytes h.0 (number + 1) rest refusal short
            (Reaches-more bytes state h.0 number line lines rest reached one.reads one.ready) h.2
      ]

  -- ---- the whole text

  -- what is read of a text is read of its lines, within the length that a script has
  pub script_from : (bytes : List ℕ) (pools : Pools) (lines : List (Line C)) →
      read_text lexicon bytes ≡ Ok (record { numbers = Some (numbers_of_pools pools); lines = lines }) →
      IsScript lexicon.language bytes pools lines
  unfolding read_from
  script_from bytes pools lines e =
      elim (cases_lt 1048576 (length bytes)) [
        | inl long ↦ let clash = sym (text_too_long lexicon bytes long) ∙ e in absurd cc
        | inr short ↦
            let h =
            lines_from (parts bytes).lines start (record { numbers = Some (numbers_of_pools pools); lines = lines })
            1 (parts bytes).rest (sym (text_short lexicon bytes short) ∙ e) in
            record {
              short = short;
              texts = (parts bytes).lines;
              are_lines = subst (λ (rest : List ℕ). AreLines bytes (parts bytes).lines rest) h.none (parts_are bytes);
              read = h.are_read;
            }
      ]

  -- lines that are read leave numbers that pools have
  ready_after : (lines : List (List ℕ)) (state last : State C) (number : ℕ) →
      AreRead lexicon.language state number lines last → IsReady state → IsReady last
  ready_after [] state last number h ready = subst (λ (s : State C). IsReady s) (sym h) ready
  ready_after (line ∷ lines) state last number h ready = ready_after lines h.0 last (number + 1) h.3 h.2

  -- what is read of a text is some script: the numbers that are told are those of pools
  pub some_script : (bytes : List ℕ) (state : State C) → read_text lexicon bytes ≡ Ok state →
      IsSomeScript lexicon.language bytes
  unfolding read_from
  some_script bytes state e =
      elim (cases_lt 1048576 (length bytes)) [
        | inl long ↦ let clash = sym (text_too_long lexicon bytes long) ∙ e in absurd cc
        | inr short ↦
            let h =
            lines_from (parts bytes).lines start state 1 (parts bytes).rest
            (sym (text_short lexicon bytes short) ∙ e) in
            let ready = ready_after (parts bytes).lines start state 1 h.are_read tt in
            let pool : AreSomePools h.numbers =
            subst (λ (o : Option LineNumbers). IfSome o AreSomePools) h.numbers_are ready in
            record {
              pools = pool.pools;
              lines = state.lines;
              script =
                  script_from bytes pool.pools state.lines
                  (e ∙ ap (λ (o : Option LineNumbers). Ok (record { numbers = o; lines = state.lines }))
                  (h.numbers_are ∙ ap (λ (n : LineNumbers). Some n) pool.numbers_are));
            }
      ]

  -- a text has one reading as lines, and each line one reading, so a script is read as itself
  pub script_is : (bytes : List ℕ) (pools : Pools) (lines : List (Line C)) →
      IsScript lexicon.language bytes pools lines →
      read_text lexicon bytes ≡ Ok (record { numbers = Some (numbers_of_pools pools); lines = lines })
  unfolding read_from
  script_is bytes pools lines h =
      text_short lexicon bytes h.short
      ∙ ap (λ p. read_lines lexicon start 1 p.lines p.rest) (lines_once bytes h.texts [] h.are_lines)
      ∙ lines_is h.texts start (record { numbers = Some (numbers_of_pools pools); lines = lines }) 1
      (numbers_of_pools pools) h.read
      refl

  -- a text that is too long has the fault 0, and else the first refused line or the end is the
  -- cause
  pub cause_from : (bytes : List ℕ) (refusal : Refusal) → read_text lexicon bytes ≡ Err refusal → IsCause lexicon.language bytes refusal
  unfolding read_from
  cause_from bytes refusal e =
      elim (cases_lt 1048576 (length bytes)) [
        | inl long ↦
            subst (IsCause lexicon.language bytes)
            (err_is (refusals.ScriptFault 0) refusal (sym (text_too_long lexicon bytes long) ∙ e))
            (too_long long refl)
        | inr short ↦
            lines_cause (parts bytes).lines bytes start 1 (parts bytes).rest refusal short
            (record { before = []; are_lines = parts_are bytes; read = refl; number_is = refl })
            (sym (text_short lexicon bytes short) ∙ e)
      ]

  -- lines that are read are behind what is left
  lines_before : (before left : List (List ℕ)) (from state : State C) (number at : ℕ) (rest : List ℕ) →
      AreRead lexicon.language from number before state → at ≡ number + length before →
      read_lines lexicon from number (before ++ left) rest ≡ read_lines lexicon state at left rest
  unfolding read_lines
  lines_before [] left from state number at rest h at_is =
      ap (λ (s : State C). read_lines lexicon s number left rest) (sym h)
      ∙ ap (λ (n : ℕ). read_lines lexicon state n left rest)
      (let same : number ≡ at = omega (arith, at_is) in same)
  lines_before (line ∷ before) left from state number at rest h at_is =
      ap (λ (r : Result (State C) Refusal). goes_on r
      (λ next. read_lines lexicon next (number + 1) (before ++ left) rest))
      (judged_is from h.0 number line h.1 h.2)
      ∙ lines_before before left h.0 state (number + 1) at rest h.3
      (let later : at ≡ number + 1 + length before = omega (arith, at_is) in later)

  -- where the lines before a number are read, the rest of the reading is that of what is left
  reached_text : (bytes : List ℕ) (state : State C) (number : ℕ) (left : List (List ℕ)) (rest : List ℕ)
      → IsShort bytes → Reaches lexicon.language bytes state number left rest →
      read_text lexicon bytes ≡ read_lines lexicon state number left rest
  unfolding read_from
  reached_text bytes state number left rest short h =
      text_short lexicon bytes short ∙ ap (λ p. read_lines lexicon start 1 p.lines p.rest)
      (lines_once bytes (h.before ++ left) rest h.are_lines)
      ∙ lines_before h.before left start state 1 number rest h.read
      (let place : number ≡ 1 + length h.before = omega (arith, h.number_is) in place)

  -- where the lines before it are read, the refusal of a line is that of the text
  reached_line : (bytes : List ℕ) (state : State C) (number : ℕ) (line : List ℕ) (left : List (List ℕ))
      (rest : List ℕ) (refusal : Refusal) → IsShort bytes →
      Reaches lexicon.language bytes state number (line ∷ left) rest → judged lexicon state number line ≡ Err refusal →
      read_text lexicon bytes ≡ Err refusal
  unfolding read_lines
  reached_line bytes state number line left rest refusal short h e =
      reached_text bytes state number (line ∷ left) rest short h
      ∙ ap
      (λ (r : Result (State C) Refusal). goes_on r (λ next. read_lines lexicon next (number + 1) left rest))
      e

  -- bytes behind the last line end are a fault of that line
  finish_some : (o : Option LineNumbers) (state : State C) (number : ℕ) (rest : List ℕ) → rest ≢ [] →
      finish o state number rest ≡ Err (refusals.ScriptFault number)
  finish_some o state number [] some = absurd (some refl)
  finish_some o state number (byte ∷ rest) some = refl

  -- a line without a reading is a fault
  unread_as : (o : Option (State C)) (number : ℕ) → ((next : State C) → o ≡ Some next → ⊥) →
      judged_as number o ≡ Err (refusals.ScriptFault number)
  unread_as None number none = refl
  unread_as (Some next) number none = absurd (none next refl)

  -- a line that has no reading in the grammar has none that the function gives
  unread_judged : (state : State C) (number : ℕ) (line : List ℕ) →
      ((next : State C) → Reads lexicon.language state number line next → ⊥) →
      judged lexicon state number line ≡ Err (refusals.ScriptFault number)
  unfolding judged
  unread_judged state number line none =
      unread_as (read_line lexicon state number line) number
      (λ next e. none next (reads_from lexicon right state next number line e))

  -- a line whose numbers aren't those of pools is refused as a bad pool
  bad_judged : (state next : State C) (number : ℕ) (line : List ℕ) (numbers : LineNumbers) →
      Reads lexicon.language state number line next → next.numbers ≡ Some numbers → (AreSomePools numbers → ⊥) →
      judged lexicon state number line ≡ Err refusals.BadPool
  bad_judged state next number line numbers reads e bad =
      judged_bad lexicon state next number line (reads_is lexicon right state next number line reads)
      (ap are_ready e
      ∙ false_from_ne_true (are_pools numbers) (λ ready. bad (pools_from numbers ready)))

  -- the first fault of the bytes is what they are read as
  pub fault_is : (bytes : List ℕ) (number : ℕ) → IsFirstFault lexicon.language bytes number →
      read_text lexicon bytes ≡ Err (refusals.ScriptFault number)
  unfolding read_lines
  fault_is bytes number (too_long long number_is) =
      text_too_long lexicon bytes long ∙ ap (λ (n : ℕ). Err (refusals.ScriptFault n)) (sym number_is)
  fault_is bytes number (no_reading short h) =
      reached_line bytes h.state number h.line h.left h.rest (refusals.ScriptFault number) short
      h.reached (unread_judged h.state number h.line h.none)
  fault_is bytes number (unfinished short h) =
      reached_text bytes h.state number [] h.rest short h.reached
      ∙ finish_some h.state.numbers h.state number h.rest h.some
  fault_is bytes number (no_pool short h) =
      reached_text bytes h.state h.behind [] [] short h.reached
      ∙ ap (λ (o : Option LineNumbers). finish o h.state h.behind []) h.no_numbers
      ∙ ap (λ (n : ℕ). Err (refusals.ScriptFault n)) (sym h.number_is)

  -- the lines before the pool line are read, and its numbers aren't those of pools
  pub bad_pool_is : (bytes : List ℕ) → HasBadPool lexicon.language bytes → read_text lexicon bytes ≡ Err refusals.BadPool
  bad_pool_is bytes h =
      reached_line bytes h.state h.number h.line h.left h.rest refusals.BadPool h.short h.reached
      (bad_judged h.state h.next h.number h.line h.numbers h.reads h.numbers_are h.bad)

  -- a refusal for lack of memory needs no cause, and each other one is the text's
  cause_of : (refusal : Refusal) (bytes : List ℕ) → Fails refusal (read_text lexicon bytes) → IsCause lexicon.language bytes refusal
  cause_of refusals.OutOfMemory bytes h = tt
  cause_of refusal bytes h = cause_from bytes refusal h

  -- a text that can be read is refused for lack of memory alone
  fails_ok : (refusal : Refusal) (state : State C) → Fails refusal (Ok state) → refusal ≡ refusals.OutOfMemory
  fails_ok refusals.OutOfMemory state h = refl
  fails_ok refusal state h = absurd cc

  -- a script that is given is the one that the text is read as
  pub is_read : (result : Result (Script C) Refusal) (bytes : List ℕ) → Gives result (read_text lexicon bytes) →
      IfOk result (λ script. IsScript lexicon.language bytes script.pools script.lines)
  is_read (Ok script) bytes h = script_from bytes script.pools script.lines h
  is_read (Err refusal) bytes h = tt

  -- a refusal that is given is the one that the text has, or for lack of memory
  pub is_caused : (result : Result (Script C) Refusal) (bytes : List ℕ) → Gives result (read_text lexicon bytes) →
      IfErr result (λ refusal. IsCause lexicon.language bytes refusal)
  is_caused (Ok script) bytes h = tt
  is_caused (Err refusal) bytes h = cause_of refusal bytes h

  -- what is read of a text that is a script is that script
  pub only_one : (result : Result (Script C) Refusal) (bytes : List ℕ) (pools : Pools)
      (lines : List (Line C)) → IsScript lexicon.language bytes pools lines → Gives result (read_text lexicon bytes) →
      MatchResult result (λ script. (script.pools ≡ pools) × (script.lines ≡ lines))
      (λ refusal. refusal ≡ refusals.OutOfMemory)
  only_one (Ok script) bytes pools lines h given =
      let same =
      ok_is (record { numbers = Some (numbers_of_pools script.pools); lines = script.lines })
      (record { numbers = Some (numbers_of_pools pools); lines = lines })
      (sym given ∙ script_is bytes pools lines h) in (
        pools_once script.pools pools
            (found_is (numbers_of_pools script.pools) (numbers_of_pools pools) (ap (λ (s : State C). s.numbers) same)),
        ap (λ (s : State C). s.lines) same,
      )
  only_one (Err refusal) bytes pools lines h given =
      fails_ok refusal (record { numbers = Some (numbers_of_pools pools); lines = lines })
      (subst (Fails refusal) (script_is bytes pools lines h) given)

  -- ---- laws

  -- a text is read as one script, so two that it is are the same
  pub one_script : (bytes : List ℕ) (pools other_pools : Pools) (lines other_lines : List (Line C)) →
      IsScript lexicon.language bytes pools lines → IsScript lexicon.language bytes other_pools other_lines →
      (pools ≡ other_pools) × (lines ≡ other_lines)
  one_script bytes pools other_pools lines other_lines h k =
      let same =
      ok_is (record { numbers = Some (numbers_of_pools pools); lines = lines })
      (record { numbers = Some (numbers_of_pools other_pools); lines = other_lines })
      (sym (script_is bytes pools lines h) ∙ script_is bytes other_pools other_lines k) in (
        pools_once pools other_pools
            (found_is (numbers_of_pools pools) (numbers_of_pools other_pools) (ap (λ (s : State C). s.numbers) same)),
        ap (λ (s : State C). s.lines) same,
      )

  -- a text is refused with one number, so two first faults have the same
  pub one_line : (bytes : List ℕ) (number other : ℕ) → IsFirstFault lexicon.language bytes number →
      IsFirstFault lexicon.language bytes other → number ≡ other
  one_line bytes number other h k =
      let same =
      err_is (refusals.ScriptFault number) (refusals.ScriptFault other)
      (sym (fault_is bytes number h) ∙ fault_is bytes other k) in
      cc

  -- a text is refused with one cause: a faulty line, or a bad pool
  pub line_or_pool : (bytes : List ℕ) (number : ℕ) → IsFirstFault lexicon.language bytes number → HasBadPool lexicon.language bytes → ⊥
  line_or_pool bytes number h k =
      let clash =
      err_is (refusals.ScriptFault number) refusals.BadPool
      (sym (fault_is bytes number h) ∙ bad_pool_is bytes k) in
      cc

  -- a text that is refused with a line is read as no script
  pub line_or_script : (bytes : List ℕ) (number : ℕ) (pools : Pools) (lines : List (Line C)) →
      IsFirstFault lexicon.language bytes number → IsScript lexicon.language bytes pools lines → ⊥
  line_or_script bytes number pools lines h k =
      let clash = sym (fault_is bytes number h) ∙ script_is bytes pools lines k in cc

  -- a text that is refused for a bad pool is read as no script
  pub pool_or_script : (bytes : List ℕ) (pools : Pools) (lines : List (Line C)) → HasBadPool lexicon.language bytes →
      IsScript lexicon.language bytes pools lines → ⊥
  pool_or_script bytes pools lines h k = let clash = sym (bad_pool_is bytes h) ∙ script_is bytes pools lines k in cc
