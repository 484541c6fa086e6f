-- The names that were made: what the set of keys says of them.
use Rattle.arrayvec.specs.ArrayVec.{ArrayVec}
use Rattle.std.proofs.Common.{◌≡◌, ℕ, Bool, true, false, cond, eqb, List, [], ◌∷◌, ◌++◌, refl, sym, ap, ◌∙◌}
use Rattle.std.specs.Prelude.{not, ◌&&◌, ◌||◌, nat_eq, ◌==◌}
use Rattle.std.specs.Str.{bytes_eq}
use Rattle.std.specs.Cmp.{unsigned_Decides}
use Rattle.std.specs.Cmp.Lexicographic.{pointwise}
use Rattle.std.specs.HashSet.{contains}
use Rattle.std.proofs.lemmas.Bool.Decides.{same_from_decides, Decides-and, Decides-like}
use Rattle.std.proofs.lemmas.Slice.Eq.{bytes_eq-Decides}
use Rattle.script_text.specs.declared.lines.Line.{Line}
use Rattle.script_text.specs.declared.made_names.MadeNames.{MadeNames}
use Rattle.script_text.specs.inside.ScriptReading.{Lexicon, is_one_of, is_made}
use Rattle.script_text.specs.inside.Agreement.{same_made, has_made}

-- a name as the set has it
abbrev pub kept : List ℕ → ArrayVec ℕ
kept name = record { items = name }

-- keys are the same where the workers and the names are
same_made-is : (worker w : ℕ) (name other : List ℕ) →
    same_made (worker, kept name) (w, kept other) ≡ (eqb w worker && bytes_eq other name)
same_made-is worker w name other =
    let keys =
    Decides-and (eqb worker w) (pointwise nat_eq name other) (unsigned_Decides worker w) (bytes_eq-Decides name other) in
    let pairs =
    Decides-and (eqb w worker) (bytes_eq other name) (unsigned_Decides w worker) (bytes_eq-Decides other name) in
    let to : (worker ≡ w) × (name ≡ other) → (w ≡ worker) × (other ≡ name) = λ p. (sym p.0, sym p.1) in
    let from : (w ≡ worker) × (other ≡ name) → (worker ≡ w) × (name ≡ other) = λ p. (sym p.0, sym p.1) in
    same_from_decides (same_made (worker, kept name) (w, kept other)) (eqb w worker && bytes_eq other name)
    (Decides-like (same_made (worker, kept name) (w, kept other)) to from keys) pairs

-- a choice of true is the test itself, or the other
or_cond : (b x : Bool) → cond b true x ≡ (b || x)
or_cond true x = refl
or_cond false x = refl

-- a set without keys has no name
pub none_made : (made : MadeNames) → made.keys.keys ≡ [] → (worker : ℕ) (name : List ℕ) →
    has_made made worker name ≡ false
unfolding has_made
none_made made e worker name = rw e refl

-- a name was added just where the set didn't have its key
pub is_added : (made : MadeNames) (worker : ℕ) (name : List ℕ) (key : ArrayVec ℕ) (added : Bool) →
    key.items ≡ name → added ≡ not (contains same_made made.keys (worker, key)) →
    added ≡ not (has_made made worker name)
unfolding has_made
is_added made worker name key added e h =
    h ∙ ap (λ (k : List ℕ). not (contains same_made made.keys (worker, kept k))) e

-- the set with one key more has that worker's name more, and no other
pub has_more : (old new : MadeNames) (worker : ℕ) (name : List ℕ) (key : ArrayVec ℕ) → key.items ≡ name →
    ((q : ℕ × ArrayVec ℕ) → contains same_made new.keys q
    ≡ cond (same_made (worker, key) q) true (contains same_made old.keys q)) →
    (w : ℕ) (other : List ℕ) →
    has_made new w other ≡ ((eqb w worker && bytes_eq other name) || has_made old w other)
unfolding has_made
has_more old new worker name key e updates w other =
    updates (w, kept other) ∙ or_cond (same_made (worker, key) (w, kept other)) (contains same_made old.keys (w, kept other))
    ∙ ap (λ (t : Bool). t || contains same_made old.keys (w, kept other))
    (ap (λ (x : List ℕ). same_made (worker, kept x) (w, kept other)) e ∙ same_made-is worker w name other)

-- ---- the names that lines make

-- of three tests it doesn't matter which two are joined first
or_assoc : (a b c : Bool) → (a || (b || c)) ≡ ((a || b) || c)
or_assoc true b c = refl
or_assoc false b c = refl

-- of two tests it doesn't matter which comes first
or_swap : (a b : Bool) → (a || b) ≡ (b || a)
or_swap true true = refl
or_swap true false = refl
or_swap false true = refl
or_swap false false = refl

-- one line more makes its command's names for its worker, beside those made before
pub is_made-push : {C : Type 0} (lexicon : Lexicon C) (lines : List (Line C)) (line : Line C) (worker : ℕ) (name : List ℕ) →
    is_made lexicon (lines ++ line ∷ []) worker name
    ≡ ((worker == line.worker && is_one_of (lexicon.language.names_made line.command) name)
    || is_made lexicon lines worker name)
is_made-push lexicon [] line worker name = refl
is_made-push lexicon (first ∷ lines) line worker name =
    let one = worker == first.worker && is_one_of (lexicon.language.names_made first.command) name in
    let new = worker == line.worker && is_one_of (lexicon.language.names_made line.command) name in
    ap (λ (t : Bool). one || t) (is_made-push lexicon lines line worker name)
    ∙ or_assoc one new (is_made lexicon lines worker name)
    ∙ ap (λ (t : Bool). t || is_made lexicon lines worker name) (or_swap one new)
    ∙ sym (or_assoc new one (is_made lexicon lines worker name))
