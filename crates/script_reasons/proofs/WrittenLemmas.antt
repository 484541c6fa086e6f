-- The first line that isn't skipped: where it stands, and that a bad pool line is one.
use Rattle.std.proofs.Common.{◌≡◌, ℕ, ◌+◌, true, false, List, [], ◌∷◌, ◌++◌, length, Option, Some, None, refl, sym, ap, subst, ◌∙◌, inl, inr, arith}
use Rattle.std.specs.List.{AllByRecursion}
use Rattle.std.specs.Prelude.{unwrap_or}
use Rattle.std.proofs.lemmas.Bool.{cond-true, cond-false, cases_Bool, false≢true}
use Rattle.script_text.specs.Text.{AreLines, IsSkipped}
use Rattle.script_text.specs.Scripts.{Language, State, start, Takes, skips, gives_pool, commands, AreRead, HasBadPool}
use Rattle.script_text.specs.inside.Reading.{is_skipped, parts, words_of}
use Rattle.script_text.proofs.LineLemmas.{lines_once, parts_are}
use Rattle.script_text.proofs.WordLemmas.{skipped_from, skipped_is, spelled_once}
use Rattle.script_reasons.specs.Lines.{IsFirstWritten}
use Rattle.script_reasons.specs.Walks.{first_from}

-- ---- the walk

-- a first line that isn't skipped is the one
pub first_written : (n : ℕ) (line : List ℕ) (lines : List (List ℕ)) → is_skipped (words_of line) ≡ false →
    first_from n (line ∷ lines) ≡ Some (n, line)
unfolding first_from
first_written n line lines e = cond-false (is_skipped (words_of line)) (first_from (n + 1) lines) (Some (n, line)) e

-- behind one that is skipped it goes on
pub first_skipped : (n : ℕ) (line : List ℕ) (lines : List (List ℕ)) → is_skipped (words_of line) ≡ true →
    first_from n (line ∷ lines) ≡ first_from (n + 1) lines
unfolding first_from
first_skipped n line lines e = cond-true (is_skipped (words_of line)) (first_from (n + 1) lines) (Some (n, line)) e

-- no line is none
pub first_none : (n : ℕ) → first_from n [] ≡ None
unfolding first_from
first_none n = refl

-- ---- what it finds

-- the line stands in these behind lines that are skipped, the first of which has this number
record FirstIn (lines : List (List ℕ)) (first number : ℕ) (line : List ℕ) : Type 0 where
  pub before : List (List ℕ)
  pub left : List (List ℕ)
  pub whole : lines ≡ before ++ line ∷ left
  pub skipped : AllByRecursion IsSkipped before
  pub written : IsSkipped line → ⊥
  pub number_is : number ≡ length before + first

-- behind one line more that is skipped
behind : (lines : List (List ℕ)) (first number : ℕ) (skip line : List ℕ) → IsSkipped skip →
    FirstIn lines (first + 1) number line → FirstIn (skip ∷ lines) first number line
behind lines first number skip line is h = record {
  before = skip ∷ h.before;
  left = h.left;
  whole = ap (λ (ls : List (List ℕ)). skip ∷ ls) h.whole;
  skipped = (is, h.skipped);
  written = h.written;
  number_is = omega (arith, h.number_is);
}

-- where the first line is the one
at_once : (lines : List (List ℕ)) (first number : ℕ) (other line : List ℕ) →
    is_skipped (words_of other) ≡ false →
    ◌≡◌ {A = Option (ℕ × List ℕ)} (Some (first, other)) (Some (number, line)) →
    FirstIn (other ∷ lines) first number line
at_once lines first number other line unskipped e =
    let same : ◌≡◌ {A = ℕ × List ℕ} (first, other) (number, line) =
    ap (λ (o : Option (ℕ × List ℕ)). unwrap_or o (first, other)) e in
    let is_line : other ≡ line = ap (λ (p : ℕ × List ℕ). p.1) same in
    let is_number : first ≡ number = ap (λ (p : ℕ × List ℕ). p.0) same in
    record {
      before = [];
      left = lines;
      whole = ap (λ (l : List ℕ). l ∷ lines) is_line;
      skipped = tt;
      written = λ is. false≢true (sym unskipped ∙ ap (λ (l : List ℕ). is_skipped (words_of l)) is_line ∙ skipped_is line is);
      number_is = omega (arith, is_number);
    }

-- the line that is found stands there
found_in : (lines : List (List ℕ)) (first number : ℕ) (line : List ℕ) →
    first_from first lines ≡ Some (number, line) → FirstIn lines first number line
found_in [] first number line e = let clash = sym (first_none first) ∙ e in absurd cc
found_in (other ∷ lines) first number line e = elim (cases_Bool (is_skipped (words_of other))) [
  | inl is ↦ behind lines first number other line (skipped_from other is)
      (found_in lines (first + 1) number line (sym (first_skipped first other lines is) ∙ e))
  | inr isnt ↦ at_once lines first number other line isnt (sym (first_written first other lines isnt) ∙ e)
]

-- where none is found, all are skipped
none_in : (lines : List (List ℕ)) (first : ℕ) → first_from first lines ≡ None → AllByRecursion IsSkipped lines
none_in [] first e = tt
none_in (other ∷ lines) first e = elim (cases_Bool (is_skipped (words_of other))) [
  | inl is ↦ (skipped_from other is, none_in lines (first + 1) (sym (first_skipped first other lines is) ∙ e))
  | inr isnt ↦ let clash = sym (first_written first other lines isnt) ∙ e in absurd cc
]

-- the line of the text that is found is the first that isn't skipped
pub written_is : (bytes : List ℕ) (number : ℕ) (line : List ℕ) →
    first_from 1 (parts bytes).lines ≡ Some (number, line) → IsFirstWritten bytes number
written_is bytes number line e =
    let f = found_in (parts bytes).lines 1 number line e in
    record {
      before = f.before;
      line = line;
      left = f.left;
      rest = (parts bytes).rest;
      are_lines = subst (λ (ls : List (List ℕ)). AreLines bytes ls (parts bytes).rest) f.whole (parts_are bytes);
      skipped = f.skipped;
      written = f.written;
      number_is = f.number_is;
    }

-- ---- a bad pool line

-- of lines in a row those in front are skipped, where all are
front : (before more : List (List ℕ)) → AllByRecursion IsSkipped (before ++ more) → AllByRecursion IsSkipped before
front [] more h = tt
front (line ∷ before) more h = (h.0, front before more h.1)

-- and those behind
back : (before more : List (List ℕ)) → AllByRecursion IsSkipped (before ++ more) → AllByRecursion IsSkipped more
back [] more h = h
back (line ∷ before) more h = back before more h.1

module _ {C : Type 0} (language : Language C) where
  -- a line that is skipped tells no numbers of pools
  none_taken : (state next : State C) (number : ℕ) (line : List ℕ) → IsSkipped line → state.numbers ≡ None →
      Takes language state number line next → next.numbers ≡ None
  none_taken state next number line skipped none (skips is same) = ap (λ (s : State C). s.numbers) same ∙ none
  none_taken state next number line skipped none (gives_pool h) =
      absurd (false≢true (sym (ap is_skipped (spelled_once h.words line h.spelled ∙ h.is_pool_line.words_are))
      ∙ skipped_is line skipped))
  none_taken state next number line skipped none (commands h) = let clash = sym none ∙ h.behind_pool in absurd cc

  -- nor do such lines one after another
  none_read : (lines : List (List ℕ)) (state after : State C) (number : ℕ) → AllByRecursion IsSkipped lines →
      state.numbers ≡ None → AreRead language state number lines after → after.numbers ≡ None
  none_read [] state after number skipped none h = ap (λ (s : State C). s.numbers) h ∙ none
  none_read (line ∷ lines) state after number skipped none h =
      none_read lines h.0 after (number + 1) skipped.1
      (none_taken state h.0 number line skipped.0 none h.1.takes) h.3

  -- so a text whose lines are all skipped has no bad pool
  pub not_all_skipped : (bytes : List ℕ) → first_from 1 (parts bytes).lines ≡ None → HasBadPool language bytes → ⊥
  not_all_skipped bytes e bad =
      let r = bad.reached in
      let once = lines_once bytes (r.before ++ bad.line ∷ bad.left) bad.rest r.are_lines in
      let all = subst (λ p. AllByRecursion IsSkipped p.lines) once (none_in (parts bytes).lines 1 e) in
      let none = none_read r.before start bad.state 1 (front r.before (bad.line ∷ bad.left) all) refl r.read in
      let clash = sym (none_taken bad.state bad.next bad.number bad.line
      (back r.before (bad.line ∷ bad.left) all).0 none bad.reads.takes) ∙ bad.numbers_are in
      absurd cc
