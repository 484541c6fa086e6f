-- A command line's worker and command are what the reading function gives.
use Rattle.std.proofs.Common.{◌≡◌, ℕ, ◌-◌, ◌≤◌, leb, eqb, false, List, [], ◌∷◌, ◌++◌, length, length-append, take, drop, Option, Some, None, refl, sym, ap, ◌∙◌, subst, arith}
use Rattle.std.specs.Prelude.{◌&&◌, option_and_then, codes}
use Rattle.std.specs.Str.{bytes_eq}
use Rattle.std.proofs.lemmas.Bool.{eqb-true, leb-true, le-leb, cond-true, and_parts, and_from, false_from_ne_true}
use Rattle.std.proofs.Math.Seq.{take-append_seam, drop-append_seam}
use Rattle.std.proofs.lemmas.List.{take-append-drop}
use Rattle.std.proofs.lemmas.Slice.Eq.{bytes_eq-Decides}
use Rattle.script_text.specs.Numbers.{IsNumber}
use Rattle.script_text.specs.Scripts.{IsPrefix, IsCommandLine, alone, prefixed}
use Rattle.script_text.specs.inside.Reading.{is_skipped, number_at}
use Rattle.script_text.specs.inside.ScriptReading.{Lexicon, before_colon, of_workers, worker_at, command_of_worker, command_by_prefix, worker_command_from}
use Rattle.script_text.specs.inside.Agreement.{IsAmong}
use Rattle.script_text.proofs.NumberLemmas.{number_from, number_is}
use Rattle.script_text.proofs.FoundLemmas.{and_then_some, found_is, if_some}
use Rattle.script_text.proofs.Right.{IsRight}

-- ---- the worker in front of a command

-- the word is what stands before its last byte, and that byte is the colon
colon_from : (word number : List ℕ) → before_colon word ≡ Some number → word ≡ number ++ codes ":"
colon_from word number e =
    let at = length word - 1 in
    let c = if_some (bytes_eq (drop at word) (codes ":")) (Some (take at word)) number e in
    sym (take-append-drop at word)
    ∙ ap (λ (front : List ℕ). front ++ drop at word) (found_is (take at word) number c.1)
    ∙ ap (λ (back : List ℕ). number ++ back)
    ((bytes_eq-Decides (drop at word) (codes ":")).0 c.0)

-- what stands before a colon at a word's end is found by leaving off that colon
colon_is : (number : List ℕ) → before_colon (number ++ codes ":") ≡ Some number
colon_is number =
    let at : length (number ++ codes ":") - 1 ≡ length number = omega (arith, length-append number (codes ":")) in
    rw (at, drop-append_seam number (codes ":"), take-append_seam number (codes ":")) refl

-- a worker is taken where it is of the pool, and as itself
among : (workers worker given : ℕ) → of_workers workers worker ≡ Some given →
    (1 ≤ worker) × (worker ≤ workers) × (worker ≡ given)
among workers worker given e =
    let c = if_some (leb 1 worker && leb worker workers) (Some worker) given e in
    let both = and_parts (leb 1 worker) (leb worker workers) c.0 in
    (leb-true 1 worker both.0, leb-true worker workers both.1, found_is worker given c.1)

-- the word in front of a command is the number of a worker of the pool, and a colon
prefix_from : (word number : List ℕ) (workers worker : ℕ) → before_colon word ≡ Some number →
    worker_at workers number ≡ Some worker → IsPrefix word workers worker
prefix_from word number workers worker e f =
    let n = and_then_some (of_workers workers) (number_at number) worker f in
    let a = among workers n.0 worker n.2 in
    subst (λ (w : ℕ). IsPrefix word workers w) a.2
    (record {
      number = number;
      whole = colon_from word number e;
      is_number = number_from number n.0 n.1;
      first = a.0;
      last = a.1;
    })

-- the number of a worker of the pool is read as that worker
worker_is : (number : List ℕ) (workers worker : ℕ) → IsNumber number worker → 1 ≤ worker →
    worker ≤ workers → worker_at workers number ≡ Some worker
worker_is number workers worker h first last =
    ap (option_and_then (of_workers workers)) (number_is number worker h)
    ∙ cond-true (leb 1 worker && leb worker workers) (Some worker) None (and_from (leb 1 worker)
    (leb worker workers) (le-leb 1 worker first) (le-leb worker workers last))

-- a number begins with a digit, and not with `#`
counted_prefix : (word number : List ℕ) (workers worker : ℕ) (rest : List (List ℕ)) →
    word ≡ number ++ codes ":" → IsNumber number worker → is_skipped (word ∷ rest) ≡ false
counted_prefix word [] workers worker rest e h = absurd (omega (arith, h.some))
counted_prefix word (byte ∷ number) workers worker rest e h =
    ap (λ (w : List ℕ). is_skipped (w ∷ rest)) e
    ∙ false_from_ne_true (eqb byte 35)
    (λ same. let digit = h.digits.0 in omega (arith, digit.0, eqb-true byte 35 same))

module _ {C : Type 0} (lexicon : Lexicon C) where
  -- the worker of a line is the first, or the one whose number stands in front
  among_by : (workers : ℕ) (o : Option (List ℕ)) (all behind : List (List ℕ)) (found : ℕ × C) → 1 ≤ workers →
      command_by_prefix lexicon workers o all behind ≡ Some found → IsAmong workers found.0
  among_by workers None all behind found some e =
      let c = and_then_some (λ command. Some (1, command)) (lexicon.command_from all) found e in
      subst (λ (o : ℕ × C). IsAmong workers o.0) (found_is (1, c.0) found c.2) (omega arith, some)
  among_by workers (Some number) all behind found some e =
      let w = and_then_some (λ worker. command_of_worker lexicon worker behind) (worker_at workers number) found e in
      let n = and_then_some (of_workers workers) (number_at number) w.0 w.1 in
      let a = among workers n.0 w.0 n.2 in
      let c = and_then_some (λ command. Some (w.0, command)) (lexicon.command_from behind) found w.2 in
      subst (λ (o : ℕ × C). IsAmong workers o.0) (found_is (w.0, c.0) found c.2) (subst (IsAmong workers) a.2 (a.0, a.1))

  -- what is read as a command line is one, and its worker is of the pool
  pub worker_command_among : (workers : ℕ) (words : List (List ℕ)) (found : ℕ × C) → 1 ≤ workers →
      worker_command_from lexicon workers words ≡ Some found → IsAmong workers found.0
  worker_command_among workers [] found some e = absurd cc
  worker_command_among workers (word ∷ words) found some e =
      among_by workers (before_colon word) (word ∷ words) words found some e

module _ {C : Type 0} (lexicon : Lexicon C) (right : IsRight lexicon) where
  -- a command that is read with a worker is that worker's, and the words are it
  worker_command_is_of : (worker : ℕ) (words : List (List ℕ)) (found : ℕ × C) →
      command_of_worker lexicon worker words ≡ Some found → (worker ≡ found.0) × lexicon.language.IsCommand words found.1
  worker_command_is_of worker words found e =
      let c = and_then_some (λ command. Some (worker, command)) (lexicon.command_from words) found e in
      let same : ◌≡◌ {A = ℕ × C} (worker, c.0) found = found_is (worker, c.0) found c.2 in (
        ap (λ (o : ℕ × C). o.0) same,
        subst (λ (command : C). lexicon.language.IsCommand words command)
            (ap (λ (o : ℕ × C). o.1) same) (right.comes words c.0 c.1),
      )

  -- the command is the first worker's, or behind a prefix that of the worker whose number it is
  worker_command_comes_by : (workers : ℕ) (o : Option (List ℕ)) (word : List ℕ) (words : List (List ℕ))
      (found : ℕ × C) → before_colon word ≡ o →
      command_by_prefix lexicon workers o (word ∷ words) words ≡ Some found →
      IsCommandLine lexicon.language workers (word ∷ words) found.0 found.1
  worker_command_comes_by workers None word words found e f =
      let c = worker_command_is_of 1 (word ∷ words) found f in alone (sym c.0) c.1
  worker_command_comes_by workers (Some number) word words found e f =
      let w = and_then_some (λ worker. command_of_worker lexicon worker words) (worker_at workers number) found f in
      let c = worker_command_is_of w.0 words found w.2 in
      prefixed word words refl (subst (λ (worker : ℕ). IsPrefix word workers worker) c.0
      (prefix_from word number workers w.0 e w.1)) c.1

  -- a command line has a first word, which is a prefix or not
  pub worker_command_comes : (workers : ℕ) (words : List (List ℕ)) (found : ℕ × C) →
      worker_command_from lexicon workers words ≡ Some found → IsCommandLine lexicon.language workers words found.0 found.1
  worker_command_comes workers [] found e = absurd cc
  worker_command_comes workers (word ∷ words) found e =
      worker_command_comes_by workers (before_colon word) word words found refl e

  -- a verb has no colon at its end, so a line that begins with one is the first worker's
  no_prefix : (words : List (List ℕ)) (command : C) (workers : ℕ) → lexicon.language.IsCommand words command →
      worker_command_from lexicon workers words ≡ command_of_worker lexicon 1 words
  no_prefix words command workers h =
      let v = right.plainly words command h in
      ap (worker_command_from lexicon workers) v.words_are
      ∙ ap (λ (o : Option (List ℕ)). command_by_prefix lexicon workers o (v.word ∷ v.rest) v.rest) v.no_colon
      ∙ ap (command_of_worker lexicon 1) (sym v.words_are)

  -- the words of a command begin with a verb, which isn't marked by `#`
  pub counted_command : (words : List (List ℕ)) (command : C) → lexicon.language.IsCommand words command → is_skipped words ≡ false
  counted_command words command h = let v = right.plainly words command h in ap is_skipped v.words_are ∙ v.unmarked

  -- a command is read as itself, with the worker that is given
  worker_command_as : (worker : ℕ) (words : List (List ℕ)) (command : C) → lexicon.language.IsCommand words command →
      command_of_worker lexicon worker words ≡ Some (worker, command)
  worker_command_as worker words command h = ap (option_and_then (λ c. Some (worker, c))) (right.is words command h)

  -- a line with a prefix is its worker's, and one without is the first worker's
  pub worker_command_is : (workers : ℕ) (words : List (List ℕ)) (worker : ℕ) (command : C) →
      IsCommandLine lexicon.language workers words worker command →
      worker_command_from lexicon workers words ≡ Some (worker, command)
  worker_command_is workers words worker command (alone one h) =
      no_prefix words command workers h ∙ ap (λ (w : ℕ). command_of_worker lexicon w words) (sym one)
      ∙ worker_command_as worker words command h
  worker_command_is workers words worker command (prefixed word rest e p h) =
      ap (worker_command_from lexicon workers) e
      ∙ ap (λ (o : Option (List ℕ)). command_by_prefix lexicon workers o (word ∷ rest) rest)
      (ap before_colon p.whole ∙ colon_is p.number)
      ∙ ap (option_and_then (λ w. command_of_worker lexicon w rest))
      (worker_is p.number workers worker p.is_number p.first p.last)
      ∙ worker_command_as worker rest command h

  -- neither a verb nor a worker's number begins with `#`, so a command line isn't skipped
  pub counted_line : (workers : ℕ) (words : List (List ℕ)) (worker : ℕ) (command : C) →
      IsCommandLine lexicon.language workers words worker command → is_skipped words ≡ false
  counted_line workers words worker command (alone one h) = counted_command words command h
  counted_line workers words worker command (prefixed word rest e p h) =
      ap is_skipped e ∙ counted_prefix word p.number workers worker rest p.whole p.is_number
