-- What was found, and by which test.
use Rattle.std.proofs.Common.{◌≡◌, ℕ, Bool, true, false, cond, List, [], ◌∷◌, Option, Some, None, refl, sym, ap, ◌∙◌, inl, inr}
use Rattle.std.specs.Prelude.{option_and_then}
use Rattle.std.specs.List.{find}
use Rattle.std.specs.Str.{bytes_eq}
use Rattle.std.proofs.lemmas.Bool.{cond-true, cond-false, cases_Bool}
use Rattle.std.proofs.lemmas.Slice.Eq.{bytes_eq-Decides}
use Rattle.script_text.specs.inside.Reading.{both_of, only_of, without_words}

-- what came of two steps came of the first, and then of the second
pub and_then_some : {A B : Type 0} (f : A → Option B) (o : Option A) (y : B) →
    option_and_then f o ≡ Some y → (x : A) × (o ≡ Some x) × (f x ≡ Some y)
and_then_some f None y e = absurd cc
and_then_some f (Some x) y e = (x, refl, e)

-- something was found
abbrev found : {A : Type 0} → A → Option A
found x = Some x

-- what is found is one thing
pub found_is : {A : Type 0} (x y : A) → found x ≡ found y → x ≡ y
found_is x y e = cc

-- ---- a test that chose

-- what came of a test that is needed came where it was met
pub if_some : {A : Type 0} (b : Bool) (o : Option A) (y : A) → cond b o None ≡ Some y → (b ≡ true) × (o ≡ Some y)
if_some true o y e = (refl, e)
if_some false o y e = absurd cc

-- what is found by its spelling is spelled so
pub spelled_from : {A : Type 0} (spelling : A → List ℕ) (all : List A) (word : List ℕ) (one : A) →
    find (λ a. bytes_eq word (spelling a)) all ≡ Some one → word ≡ spelling one
spelled_from spelling [] word one e = absurd cc
spelled_from spelling (first ∷ others) word one e = elim (cases_Bool (bytes_eq word (spelling first))) [
  | inl same ↦
      let found : first ≡ one =
      found_is first one (sym (cond-true (bytes_eq word (spelling first)) (Some first)
      (find (λ a. bytes_eq word (spelling a)) others) same) ∙ e) in
      (bytes_eq-Decides word (spelling first)).0 same ∙ ap spelling found
  | inr other ↦
      spelled_from spelling others word one (sym (cond-false (bytes_eq word (spelling first))
      (Some first) (find (λ a. bytes_eq word (spelling a)) others) other) ∙ e)
]

-- what came of a test that refuses came where it wasn't met
pub if_none : {A : Type 0} (b : Bool) (o : Option A) (y : A) → cond b None o ≡ Some y → (b ≡ false) × (o ≡ Some y)
if_none true o y e = absurd cc
if_none false o y e = (refl, e)

-- ---- the words behind a verb

-- words whose only word is found are that word
pub only_is : (words : List (List ℕ)) (word : List ℕ) → only_of words ≡ Some word → words ≡ word ∷ []
only_is [] word e = absurd cc
only_is (first ∷ []) word e = ap (λ (w : List ℕ). w ∷ []) (found_is first word e)
only_is (first ∷ other ∷ words) word e = absurd cc

-- the only two words are those
pub both_is : (words : List (List ℕ)) (both : List ℕ × List ℕ) → both_of words ≡ Some both → words ≡ both.0 ∷ both.1 ∷ []
both_is [] both e = absurd cc
both_is (word ∷ []) both e = absurd cc
both_is (word ∷ other ∷ []) both e = let same = found_is (word, other) both e in rw (← same) refl
both_is (word ∷ other ∷ third ∷ words) both e = absurd cc

-- a verb that stands alone is followed by no word
pub without_words_is : {A : Type 0} (one given : A) (words : List (List ℕ)) →
    without_words one words ≡ Some given → (words ≡ []) × (one ≡ given)
without_words_is one given [] e = (refl, found_is one given e)
without_words_is one given (word ∷ words) e = absurd cc
