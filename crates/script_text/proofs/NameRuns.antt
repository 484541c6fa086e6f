-- Names that one command makes, one after another.
use Rattle.std.proofs.Common.{ℕ, ◌≡◌, Bool, true, false, List, [], ◌∷◌, ◌++◌, refl, ◌∙◌}
use Rattle.std.specs.Prelude.{not, ◌&&◌, ◌||◌, ◌==◌}
use Rattle.std.specs.Str.{bytes_eq}
use Rattle.script_text.specs.inside.ScriptReading.{is_one_of, with_name}

-- what was made, with each of the names
abbrev pub with_names : (ℕ → List ℕ → Bool) → ℕ → List (List ℕ) → ℕ → List ℕ → Bool
with_names made worker [] = made
with_names made worker (name ∷ names) = with_names (with_name made worker name) worker names

-- one name more behind the others is made by one line more
pub with_names-more : (names : List (List ℕ)) (made : ℕ → List ℕ → Bool) (worker : ℕ) (name : List ℕ) →
    with_names made worker (names ++ name ∷ [])
    ≡ with_name (with_names made worker names) worker name
with_names-more [] made worker name = refl
with_names-more (first ∷ names) made worker name = with_names-more names (with_name made worker first) worker name

-- of a worker's names, the first or one of the others
one_more : (a b c d : Bool) → ((a && b) || ((a && c) || d)) ≡ ((a && (c || b)) || d)
one_more true true true d = refl
one_more true true false d = refl
one_more true false true d = refl
one_more true false false d = refl
one_more false b c d = refl

-- no names more make no name more
no_more : (a d : Bool) → d ≡ ((a && false) || d)
no_more true d = refl
no_more false d = refl

-- what was made with the names is what they are, and what was made before
pub with_names-made : (names : List (List ℕ)) (made : ℕ → List ℕ → Bool) (worker w : ℕ)
    (other : List ℕ) → with_names made worker names w other
    ≡ ((w == worker && is_one_of names other) || made w other)
with_names-made [] made worker w other = no_more (w == worker) (made w other)
with_names-made (name ∷ names) made worker w other =
    with_names-made names (with_name made worker name) worker w other
    ∙ one_more (w == worker) (is_one_of names other) (bytes_eq other name) (made w other)

-- what is denied isn't so
pub not_so : (b : Bool) → not b ≡ true → b ≡ false
not_so true e = cc
not_so false e = refl
