-- The names that were made are what their tests say.
use Rattle.std.proofs.Common.{◌≡◌, ℕ, Bool, true, false, List, [], ◌∷◌, refl, sym, ap, ◌∙◌, subst, inl, inr}
use Rattle.std.specs.Prelude.{◌&&◌, ◌||◌, ◌==◌, ◌⊎◌}
use Rattle.std.specs.Str.{bytes_eq}
use Rattle.std.proofs.lemmas.Bool.{eqb-true, eq-eqb, and_parts, and_from, or_cases, or_left, or_right, both_ways, false≢true, false_from_ne_true}
use Rattle.std.proofs.lemmas.Slice.Eq.{bytes_eq-Decides}
use Rattle.script_text.specs.declared.lines.Line.{Line}
use Rattle.script_text.specs.Scripts.{IsOneOf, AreApart, IsMade, MakesAnew}
use Rattle.script_text.specs.inside.ScriptReading.{Lexicon, with_name, repeats, is_one_of, is_made}

-- a name that is found among others is one of them
one_of_from : (names : List (List ℕ)) (name : List ℕ) → is_one_of names name ≡ true → IsOneOf names name
one_of_from [] name e = absurd (false≢true e)
one_of_from (first ∷ names) name e =
    elim (or_cases (bytes_eq name first) (is_one_of names name) e) [
      | inl h ↦ inl (sym ((bytes_eq-Decides name first).0 h))
      | inr h ↦ inr (one_of_from names name h)
    ]

-- a name that is one of them is found among them
one_of_is : (names : List (List ℕ)) (name : List ℕ) → IsOneOf names name → is_one_of names name ≡ true
one_of_is [] name h = absurd h
one_of_is (first ∷ names) name (inl h) =
    or_left (bytes_eq name first) (is_one_of names name) ((bytes_eq-Decides name first).1 (sym h))
one_of_is (first ∷ names) name (inr h) = or_right (bytes_eq name first) (is_one_of names name) (one_of_is names name h)

-- ---- a test of what was made, and what it says of one worker's names

-- a name that was made with one more is that one, or was made without it
more_from : (made : ℕ → List ℕ → Bool) (Made : List ℕ → Type 0) (worker : ℕ) (name other : List ℕ) →
    (made worker other ≡ true → Made other) → with_name made worker name worker other ≡ true →
    (name ≡ other) ⊎ Made other
more_from made Made worker name other from e =
    elim (or_cases (worker == worker && bytes_eq other name) (made worker other) e) [
      | inl h ↦ inl (sym ((bytes_eq-Decides other name).0 (and_parts (worker == worker) (bytes_eq other name) h).1))
      | inr h ↦ inr (from h)
    ]

-- the one more is made, and so is each that was made without it
more_is : (made : ℕ → List ℕ → Bool) (Made : List ℕ → Type 0) (worker : ℕ) (name other : List ℕ) →
    (Made other → made worker other ≡ true) → (name ≡ other) ⊎ Made other →
    with_name made worker name worker other ≡ true
more_is made Made worker name other is (inl same) =
    or_left (worker == worker && bytes_eq other name) (made worker other)
    (and_from (worker == worker) (bytes_eq other name) (eq-eqb worker worker refl)
    ((bytes_eq-Decides other name).1 (sym same)))
more_is made Made worker name other is (inr h) = or_right (worker == worker && bytes_eq other name) (made worker other) (is h)

-- names that weren't made and that stand once each
some_is : (names : List (List ℕ)) (made : ℕ → List ℕ → Bool) (Made : List ℕ → Type 0) (worker : ℕ) →
    ((name : List ℕ) → made worker name ≡ true → Made name) →
    ((name : List ℕ) → IsOneOf names name → Made name → ⊥) → AreApart names →
    repeats made worker names ≡ false
some_is [] made Made worker from new once = refl
some_is (name ∷ names) made Made worker from new once =
    let first =
    false_from_ne_true (made worker name)
    (λ e. new name (inl refl) (from name e)) in
    ap (λ (b : Bool). b || repeats (with_name made worker name) worker names) first
    ∙ some_is names (with_name made worker name) (λ other. (name ≡ other) ⊎ Made other) worker
    (λ other e. more_from made Made worker name other (from other) e) (λ other h before. elim before [
      | inl same ↦ once.0 (subst (IsOneOf names) (sym same) h)
      | inr earlier ↦ new other (inr h) earlier
    ]) once.1

-- where neither of two tests is met, each of them isn't
either_false : (a b : Bool) → (a || b) ≡ false → (a ≡ false) × (b ≡ false)
either_false true b e = absurd (false≢true (sym e))
either_false false b e = (refl, e)

-- names that don't repeat are made by no line before, and each stands once
some_from : (names : List (List ℕ)) (made : ℕ → List ℕ → Bool) (Made : List ℕ → Type 0) (worker : ℕ) →
    ((name : List ℕ) → Made name → made worker name ≡ true) →
    repeats made worker names ≡ false →
    ((name : List ℕ) → IsOneOf names name → Made name → ⊥) × AreApart names
some_from [] made Made worker is e = (λ name h before. h, tt)
some_from (name ∷ names) made Made worker is e =
    let both = either_false (made worker name) (repeats (with_name made worker name) worker names) e in
    let rest = some_from names (with_name made worker name) (λ other. (name ≡ other) ⊎ Made other) worker
    (λ other h. more_is made Made worker name other (is other) h) both.1 in (
      λ other h before. elim h [
        | inl same ↦
            both_ways (made worker name) both.0
            (is name (subst Made (sym same) before))
        | inr behind ↦ rest.0 other behind (inr before)
      ],
      (λ h. rest.0 name h (inl refl), rest.1),
    )

-- ---- tests that say the same of names

-- two tests say the same of each name
abbrev pub AreAlike : (ℕ → List ℕ → Bool) → (ℕ → List ℕ → Bool) → Type 0
AreAlike one other = (worker : ℕ) (name : List ℕ) → one worker name ≡ other worker name

-- names repeat by one test where they repeat by another that says the same of each name
pub repeats-alike : (names : List (List ℕ)) (one other : ℕ → List ℕ → Bool) (worker : ℕ) →
    AreAlike one other → repeats one worker names ≡ repeats other worker names
repeats-alike [] one other worker alike = refl
repeats-alike (name ∷ names) one other worker alike =
    ap (λ (b : Bool). b || repeats (with_name one worker name) worker names) (alike worker name)
    ∙ ap (λ (b : Bool). other worker name || b)
    (repeats-alike names (with_name one worker name) (with_name other worker name) worker
    (λ w n. ap (λ (b : Bool). (w == worker && bytes_eq n name) || b) (alike w n)))

-- ---- names that lines make

module _ {C : Type 0} (lexicon : Lexicon C) where
  -- a name that is found among those made is made by a line of the worker
  made_from : (lines : List (Line C)) (worker : ℕ) (name : List ℕ) → is_made lexicon lines worker name ≡ true →
      IsMade lexicon.language lines worker name
  made_from [] worker name e = absurd (false≢true e)
  made_from (line ∷ lines) worker name e =
      elim (or_cases (worker == line.worker && is_one_of (lexicon.language.names_made line.command) name)
      (is_made lexicon lines worker name) e) [
        | inl h ↦ let both = and_parts (worker == line.worker)
            (is_one_of (lexicon.language.names_made line.command) name) h in
            inl (
              sym (eqb-true worker line.worker both.0),
              one_of_from
                  (lexicon.language.names_made line.command) name both.1,
            )
        | inr h ↦ inr (made_from lines worker name h)
      ]

  -- a name that a line of the worker makes is found among those made
  made_is : (lines : List (Line C)) (worker : ℕ) (name : List ℕ) → IsMade lexicon.language lines worker name →
      is_made lexicon lines worker name ≡ true
  made_is [] worker name h = absurd h
  made_is (line ∷ lines) worker name (inl h) =
      or_left (worker == line.worker && is_one_of (lexicon.language.names_made line.command) name)
      (is_made lexicon lines worker name) (and_from (worker == line.worker)
      (is_one_of (lexicon.language.names_made line.command) name) (eq-eqb worker line.worker (sym h.0))
      (one_of_is (lexicon.language.names_made line.command) name h.1))
  made_is (line ∷ lines) worker name (inr h) =
      or_right (worker == line.worker && is_one_of (lexicon.language.names_made line.command) name)
      (is_made lexicon lines worker name) (made_is lines worker name h)

  -- a command that makes its names anew repeats none
  pub anew_is : (lines : List (Line C)) (worker : ℕ) (command : C) →
      MakesAnew lexicon.language lines worker command → repeats (is_made lexicon lines) worker (lexicon.language.names_made command) ≡ false
  anew_is lines worker command h = some_is (lexicon.language.names_made command) (is_made lexicon lines)
      (IsMade lexicon.language lines worker) worker (made_from lines worker) h.new h.once

  -- a command that repeats no name makes each anew
  pub anew_from : (lines : List (Line C)) (worker : ℕ) (command : C) →
      repeats (is_made lexicon lines) worker (lexicon.language.names_made command) ≡ false → MakesAnew lexicon.language lines worker command
  anew_from lines worker command e =
      let both = some_from (lexicon.language.names_made command) (is_made lexicon lines)
      (IsMade lexicon.language lines worker) worker (made_is lines worker) e in
      record { new = both.0; once = both.1 }
