-- A step is what the reading function gives.
use Rattle.std.proofs.Common.{◌≡◌, ℕ, true, false, List, [], ◌∷◌, Option, Some, None, refl, sym, ap, ◌∙◌, subst, arith, inl, inr}
use Rattle.std.specs.Prelude.{option_and_then, codes}
use Rattle.std.specs.Str.{bytes_eq}
use Rattle.std.proofs.lemmas.Bool.{cases_Bool, cond-true, cond-false, false_from_ne_true}
use Rattle.std.proofs.lemmas.Slice.Eq.{bytes_eq-Decides}
use Rattle.script_text.specs.declared.steps.Step.{Step}
use Rattle.script_text.specs.declared.steps.Step.TheVariants as kinds
use Rattle.script_text.specs.declared.step_line.StepVerb.{StepVerb}
use Rattle.script_text.specs.declared.step_line.StepVerb.TheVariants.{LoadLength, Reserve, Add, LoadHead, LoadLink, Cut, StoreLink, Push, Claim, Sole, SoleFree, Raise, Lower, Reset, Hold, Open, Seize, TakeOut, Clear}
use Rattle.script_text.specs.Numbers.{IsNumber}
use Rattle.script_text.specs.StepLine.{IsElementOrEnd, IsDesk, AreVerbAnd, AreVerbAndTwo, IsStep}
use Rattle.script_text.specs.inside.Reading.{number_at, short_number_at, both_of, only_of, without_words}
use Rattle.script_text.specs.inside.StepReading.{step_word, all_step_verbs, step_verb_at, element_at, one_at, two_at, step_of, step_with, step_from, step_lexicon}
use Rattle.script_text.proofs.FoundLemmas.{and_then_some, both_is, found_is, only_is, spelled_from, without_words_is}
use Rattle.script_text.proofs.NumberLemmas.{number_from, number_is, short_number_from, short_number_is}
use Rattle.script_text.specs.inside.PutInReading.{put_in_from}
use Rattle.script_text.proofs.PutInLemmas.{put_in_comes, put_in_is}
use Rattle.script_text.proofs.Right.{IsRight, BeginsPlainly, begins}

-- ---- words

-- exactly what a word is is read from it
record IsReadAs {A : Type 0} (Is : List ℕ → A → Type 0) (read : List ℕ → Option A) : Type 0 where
  from : (word : List ℕ) (a : A) → read word ≡ Some a → Is word a
  is : (word : List ℕ) (a : A) → Is word a → read word ≡ Some a

-- numbers are read as they are written
numbers : IsReadAs IsNumber number_at
numbers = record { from = number_from; is = number_is }

-- desks are read as they are written
desks : IsReadAs IsDesk short_number_at
desks = record { from = short_number_from; is = λ word desk h. short_number_is word desk h.0 h.1 }

-- the element whose number a word spells
abbrev numbered_element : List ℕ → Option (Option ℕ)
numbered_element word = option_and_then (λ element. Some (Some element)) (number_at word)

-- a word that is read as an element, or as the end, is that
element_from : (word : List ℕ) (element : Option ℕ) → element_at word ≡ Some element → IsElementOrEnd word element
element_from word element e = elim (cases_Bool (bytes_eq word (codes "-"))) [
  | inl same ↦
      let ends = found_is None element (sym (cond-true (bytes_eq word (codes "-")) (Some None) (numbered_element word) same) ∙ e) in
      subst (IsElementOrEnd word) ends ((bytes_eq-Decides word (codes "-")).0 same)
  | inr other ↦
      let n = and_then_some (λ element. Some (Some element)) (number_at word) element
      (sym (cond-false (bytes_eq word (codes "-")) (Some None) (numbered_element word) other) ∙ e) in
      subst (IsElementOrEnd word) (found_is (Some n.0) element n.2) (number_from word n.0 n.1)
]

-- `-` is no number
no_end : (word : List ℕ) (n : ℕ) → IsNumber word n → bytes_eq word (codes "-") ≡ false
no_end word n h = false_from_ne_true (bytes_eq word (codes "-")) (λ e.
    let dash = subst (λ (w : List ℕ). IsNumber w n) ((bytes_eq-Decides word (codes "-")).0 e) h in
    let digit = dash.digits.0 in absurd (omega (arith, digit.0)))

-- an element's number is read as it, and `-` as the end
element_is : (word : List ℕ) (element : Option ℕ) → IsElementOrEnd word element → element_at word ≡ Some element
element_is word None h = cond-true (bytes_eq word (codes "-")) (Some None) (numbered_element word) ((bytes_eq-Decides word (codes "-")).1 h)
element_is word (Some n) h = cond-false (bytes_eq word (codes "-")) (Some None) (numbered_element word)
    (no_end word n h) ∙ ap (option_and_then (λ element. Some (Some element))) (number_is word n h)

-- elements and the end are read as they are written
elements : IsReadAs IsElementOrEnd element_at
elements = record { from = element_from; is = element_is }

-- ---- steps by what stands behind their verb

-- a verb that stands alone is its step
alone_is : (verb : StepVerb) (kind : Step) →
    ((all : List (List ℕ)) → all ≡ step_word verb ∷ [] → IsStep all kind) →
    (words : List (List ℕ)) (step : Step) → without_words kind words ≡ Some step →
    IsStep (step_word verb ∷ words) step
alone_is verb kind by words step e =
    let b = without_words_is kind step words e in
    subst (λ (s : Step). IsStep (step_word verb ∷ words) s) b.1
    (by (step_word verb ∷ words) (ap (λ (ws : List (List ℕ)). step_word verb ∷ ws) b.0))

module _ {A : Type 0} (Is : List ℕ → A → Type 0) (read : List ℕ → Option A) (reads : IsReadAs Is read) where
  -- a verb and one word behind it are the step of what the word is
  one_is : (verb : StepVerb) (make : A → Step) →
      ((all : List (List ℕ)) (a : A) → AreVerbAnd Is all (step_word verb) a → IsStep all (make a)) →
      (words : List (List ℕ)) (step : Step) → step_of make (one_at read words) ≡ Some step →
      IsStep (step_word verb ∷ words) step
  one_is verb make by words step e =
      let a = and_then_some (λ x. Some (make x)) (one_at read words) step e in
      let w = and_then_some read (only_of words) a.0 a.1 in
      subst (λ (s : Step). IsStep (step_word verb ∷ words) s) (found_is (make a.0) step a.2)
      (by (step_word verb ∷ words) a.0 (
        w.0,
        ap (λ (ws : List (List ℕ)). step_word verb ∷ ws)
            (only_is words w.0 w.1),
        reads.from w.0 a.0 w.2,
      ))

  -- what a word is is read as the step of it
  one_by : (make : A → Step) (word : List ℕ) (a : A) → Is word a → step_of make (one_at read (word ∷ [])) ≡ Some (make a)
  one_by make word a h = ap (option_and_then (λ x. Some (make x))) (reads.is word a h)

module _ {A B : Type 0} (Is : List ℕ → A → Type 0) (IsOther : List ℕ → B → Type 0) (read : List ℕ → Option A)
    (read_other : List ℕ → Option B) (reads : IsReadAs Is read) (reads_other : IsReadAs IsOther read_other) where
  -- a verb and two words behind it are the step of what the two are
  two_is : (verb : StepVerb) (make : A → B → Step) →
      ((all : List (List ℕ)) (a : A) (b : B) → AreVerbAndTwo Is IsOther all (step_word verb) a b →
      IsStep all (make a b)) → (words : List (List ℕ)) (step : Step) →
      step_of (λ both. make both.0 both.1) (two_at read read_other words) ≡ Some step →
      IsStep (step_word verb ∷ words) step
  two_is verb make by words step e =
      let p = and_then_some (λ (both : A × B). Some (make both.0 both.1)) (two_at read read_other words) step e in
      let w = and_then_some (λ both. option_and_then
      (λ a. option_and_then (λ b. Some (a, b)) (read_other both.1)) (read both.0))
      (both_of words) p.0 p.1 in
      let a = and_then_some (λ a. option_and_then (λ b. Some (a, b)) (read_other w.0.1)) (read w.0.0) p.0 w.2 in
      let b = and_then_some (λ b. Some (a.0, b)) (read_other w.0.1) p.0 a.2 in
      let same : ◌≡◌ {A = A × B} (a.0, b.0) p.0 = found_is (a.0, b.0) p.0 b.2 in
      subst (λ (s : Step). IsStep (step_word verb ∷ words) s)
      (ap (λ (both : A × B). make both.0 both.1) same ∙ found_is (make p.0.0 p.0.1) step p.2)
      (by (step_word verb ∷ words) a.0 b.0 (
        w.0.0,
        w.0.1,
        ap (λ (ws : List (List ℕ)). step_word verb ∷ ws) (both_is words w.0 w.1),
        reads.from w.0.0 a.0 a.1,
        reads_other.from w.0.1 b.0 b.1,
      ))

  -- what two words are is read as the step of both
  two_by : (make : A → B → Step) (word other : List ℕ) (a : A) (b : B) → Is word a → IsOther other b →
      step_of (λ both. make both.0 both.1) (two_at read read_other (word ∷ other ∷ [])) ≡ Some (make a b)
  two_by make word other a b h k = rw (reads.is word a h, reads_other.is other b k) refl

-- ---- all steps

-- each verb takes the words that its row of the table of steps has, and no others
step_of_verb : (verb : StepVerb) (words : List (List ℕ)) (step : Step) → step_with verb words ≡ Some step →
    IsStep (step_word verb ∷ words) step
step_of_verb LoadLength words step e = alone_is LoadLength kinds.LoadLength (λ all h. h) words step e
step_of_verb Reserve words step e = two_is IsNumber IsNumber number_at number_at numbers numbers Reserve
    (λ old n. kinds.Reserve old n) (λ all old n h. h) words step e
step_of_verb Add words step e = one_is IsNumber number_at numbers Add (λ n. kinds.Add n) (λ all n h. h) words step e
step_of_verb LoadHead words step e = alone_is LoadHead kinds.LoadHead (λ all h. h) words step e
step_of_verb LoadLink words step e = one_is IsElementOrEnd element_at elements LoadLink (λ i. kinds.LoadLink i) (λ all i h. h) words step e
step_of_verb Cut words step e = alone_is Cut kinds.Cut (λ all h. h) words step e
step_of_verb StoreLink words step e = two_is IsElementOrEnd IsElementOrEnd element_at element_at elements elements StoreLink
    (λ i j. kinds.StoreLink i j) (λ all i j h. h) words step e
step_of_verb Push words step e = alone_is Push kinds.Push (λ all h. h) words step e
step_of_verb Claim words step e = one_is IsElementOrEnd element_at elements Claim (λ i. kinds.Claim i) (λ all i h. h) words step e
step_of_verb Sole words step e = one_is IsElementOrEnd element_at elements Sole (λ i. kinds.Sole i false) (λ all i h. h) words step e
step_of_verb SoleFree words step e = one_is IsElementOrEnd element_at elements SoleFree (λ i. kinds.Sole i true) (λ all i h. h) words step e
step_of_verb Raise words step e = two_is IsElementOrEnd IsNumber element_at number_at elements numbers Raise
    (λ i old. kinds.Raise i old) (λ all i old h. h) words step e
step_of_verb Lower words step e = one_is IsElementOrEnd element_at elements Lower (λ i. kinds.Lower i) (λ all i h. h) words step e
step_of_verb Reset words step e = one_is IsElementOrEnd element_at elements Reset (λ i. kinds.Reset i) (λ all i h. h) words step e
step_of_verb Hold words step e = one_is IsDesk short_number_at desks Hold (λ desk. kinds.Hold desk) (λ all desk h. h) words step e
step_of_verb Open words step e = one_is IsDesk short_number_at desks Open (λ desk. kinds.Open desk) (λ all desk h. h) words step e
step_of_verb Seize words step e = one_is IsDesk short_number_at desks Seize (λ desk. kinds.Seize desk) (λ all desk h. h) words step e
step_of_verb TakeOut words step e = one_is IsDesk short_number_at desks TakeOut (λ desk. kinds.TakeOut desk) (λ all desk h. h) words step e
step_of_verb Clear words step e = one_is IsDesk short_number_at desks Clear (λ desk. kinds.Clear desk) (λ all desk h. h) words step e

-- the step of a verb other than `putin`
abbrev other_step : List ℕ → List (List ℕ) → Option Step
other_step word words = option_and_then (λ verb. step_with verb words) (step_verb_at word)

-- words that are read as a step are that step
step_comes : (words : List (List ℕ)) (step : Step) → step_from words ≡ Some step → IsStep words step
step_comes [] step e = absurd cc
step_comes (word ∷ words) step e = elim (cases_Bool (bytes_eq word (codes "putin"))) [
  | inl puts ↦
      let read = put_in_comes words step (sym
      (cond-true (bytes_eq word (codes "putin")) (put_in_from words) (other_step word words) puts) ∙ e) in
      subst (λ (s : Step). IsStep (word ∷ words) s) read.step_is (read.is_put_in word ((bytes_eq-Decides word (codes "putin")).0 puts))
  | inr other ↦
      let v = and_then_some (λ verb. step_with verb words) (step_verb_at word) step
      (sym (cond-false (bytes_eq word (codes "putin")) (put_in_from words) (other_step word words) other)
      ∙ e) in
      subst (λ (w : List ℕ). IsStep (w ∷ words) step) (sym (spelled_from step_word all_step_verbs word v.0 v.1))
      (step_of_verb v.0 words step v.2)
]

-- a step is read from its words, whatever its kind
step_is : (words : List (List ℕ)) (step : Step) → IsStep words step → step_from words ≡ Some step
step_is words kinds.LoadLength h = ap step_from h
step_is words (kinds.Reserve old n) h = ap step_from h.2
    ∙ two_by IsNumber IsNumber number_at number_at numbers numbers
    (λ a b. kinds.Reserve a b) h.0 h.1 old n h.3 h.4
step_is words (kinds.Add n) h = ap step_from h.1 ∙ one_by IsNumber number_at numbers (λ a. kinds.Add a) h.0 n h.2
step_is words kinds.LoadHead h = ap step_from h
step_is words (kinds.LoadLink i) h = ap step_from h.1 ∙ one_by IsElementOrEnd element_at elements (λ a. kinds.LoadLink a) h.0 i h.2
step_is words kinds.Cut h = ap step_from h
step_is words (kinds.StoreLink i j) h = ap step_from h.2
    ∙ two_by IsElementOrEnd IsElementOrEnd element_at element_at elements elements (λ a b. kinds.StoreLink a b) h.0 h.1 i j h.3 h.4
step_is words kinds.Push h = ap step_from h
step_is words (kinds.Claim i) h = ap step_from h.1 ∙ one_by IsElementOrEnd element_at elements (λ a. kinds.Claim a) h.0 i h.2
step_is words (kinds.Sole i false) h = ap step_from h.1 ∙ one_by IsElementOrEnd element_at elements (λ a. kinds.Sole a false) h.0 i h.2
step_is words (kinds.Sole i true) h = ap step_from h.1 ∙ one_by IsElementOrEnd element_at elements (λ a. kinds.Sole a true) h.0 i h.2
step_is words (kinds.Raise i old) h = ap step_from h.2
    ∙ two_by IsElementOrEnd IsNumber element_at number_at elements numbers (λ a b. kinds.Raise a b) h.0 h.1 i old h.3 h.4
step_is words (kinds.Lower i) h = ap step_from h.1 ∙ one_by IsElementOrEnd element_at elements (λ a. kinds.Lower a) h.0 i h.2
step_is words (kinds.Reset i) h = ap step_from h.1 ∙ one_by IsElementOrEnd element_at elements (λ a. kinds.Reset a) h.0 i h.2
step_is words (kinds.Hold desk) h = ap step_from h.1 ∙ one_by IsDesk short_number_at desks (λ a. kinds.Hold a) h.0 desk h.2
step_is words (kinds.PutIn desk segments) h = ap step_from h.words_are
    ∙ put_in_is h.number h.rest desk segments h.is_desk h.are_segments h.some h.few
step_is words (kinds.Open desk) h = ap step_from h.1 ∙ one_by IsDesk short_number_at desks (λ a. kinds.Open a) h.0 desk h.2
step_is words (kinds.Seize desk) h = ap step_from h.1 ∙ one_by IsDesk short_number_at desks (λ a. kinds.Seize a) h.0 desk h.2
step_is words (kinds.TakeOut desk) h = ap step_from h.1 ∙ one_by IsDesk short_number_at desks (λ a. kinds.TakeOut a) h.0 desk h.2
step_is words (kinds.Clear desk) h = ap step_from h.1 ∙ one_by IsDesk short_number_at desks (λ a. kinds.Clear a) h.0 desk h.2

-- each step begins with a verb
step_first : (words : List (List ℕ)) (step : Step) → IsStep words step → BeginsPlainly words
step_first words kinds.LoadLength h = begins words _ _ h refl refl
step_first words (kinds.Reserve old n) h = begins words _ _ h.2 refl refl
step_first words (kinds.Add n) h = begins words _ _ h.1 refl refl
step_first words kinds.LoadHead h = begins words _ _ h refl refl
step_first words (kinds.LoadLink i) h = begins words _ _ h.1 refl refl
step_first words kinds.Cut h = begins words _ _ h refl refl
step_first words (kinds.StoreLink i j) h = begins words _ _ h.2 refl refl
step_first words kinds.Push h = begins words _ _ h refl refl
step_first words (kinds.Claim i) h = begins words _ _ h.1 refl refl
step_first words (kinds.Sole i false) h = begins words _ _ h.1 refl refl
step_first words (kinds.Sole i true) h = begins words _ _ h.1 refl refl
step_first words (kinds.Raise i old) h = begins words _ _ h.2 refl refl
step_first words (kinds.Lower i) h = begins words _ _ h.1 refl refl
step_first words (kinds.Reset i) h = begins words _ _ h.1 refl refl
step_first words (kinds.Hold desk) h = begins words _ _ h.1 refl refl
step_first words (kinds.PutIn desk segments) h = begins words _ _ h.words_are refl refl
step_first words (kinds.Open desk) h = begins words _ _ h.1 refl refl
step_first words (kinds.Seize desk) h = begins words _ _ h.1 refl refl
step_first words (kinds.TakeOut desk) h = begins words _ _ h.1 refl refl
step_first words (kinds.Clear desk) h = begins words _ _ h.1 refl refl

-- steps are read as they are written
pub steps_are_right : IsRight step_lexicon
steps_are_right = record { comes = step_comes; is = step_is; plainly = step_first }
