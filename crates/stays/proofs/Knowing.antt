-- The table of packets, and a filter by it.
use Rattle.std.proofs.Common.{◌≡◌, Bool, true, false, cond, List, [], ◌∷◌, ◌++◌, refl, sym, ap, ◌∙◌}
use Rattle.std.specs.Prelude.{◌||◌, not, Vec, filter}
use Rattle.std.specs.Cmp.Lexicographic.{pointwise}
use Rattle.std.specs.HashSet.{HashSet, PutsKey}
use Rattle.std.specs.List.{list_any}
use Rattle.std.proofs.lemmas.List.Sorted.{list_any-IsPermutation}
use Rattle.stays.specs.declared.used.Part.{Part}
use Rattle.stays.specs.declared.used.Used.{Used}
use Rattle.stays.specs.Stays.{has_parts, same_part}
use Rattle.stays.specs.inside.Knowing.{has_key}
use Rattle.stays.proofs.Same.{same_parts-Decides, same_parts-flip}

-- a packet more is in front of or behind the others
pub has_parts-more : (used : List Used) (one : Used) (parts : List Part) →
    has_parts (used ++ one ∷ []) parts ≡ cond (pointwise same_part one.parts parts) true (has_parts used parts)
has_parts-more [] one parts =
    ap (λ (b : Bool). b || false) (same_parts-flip parts one.parts) ∙ alone (pointwise same_part one.parts parts)
  where
    alone : (b : Bool) → (b || false) ≡ cond b true false
    alone true = refl
    alone false = refl
has_parts-more (first ∷ used) one parts =
    ap (λ (b : Bool). pointwise same_part parts first.parts || b) (has_parts-more used one parts)
    ∙ swap (pointwise same_part parts first.parts) (pointwise same_part one.parts parts) (has_parts used parts)
  where
    swap : (a b c : Bool) → (a || cond b true c) ≡ cond b true (a || c)
    swap true true c = refl
    swap true false c = refl
    swap false true c = refl
    swap false false c = refl

-- a set with one key more has its segments, and those that it had; also where it had the key
pub has_key-more : {A S : Type 0} (old new : HashSet (Vec Part A) S) (key : Vec Part A) (added : Bool) →
    added ≡ not (has_key old key.items) → PutsKey old new key added → (parts : List Part) →
    has_key new parts ≡ cond (pointwise same_part key.items parts) true (has_key old parts)
has_key-more {A} old new key true e puts parts =
    sym (list_any-IsPermutation (λ (k : Vec Part A). pointwise same_part parts k.items) (key ∷ old.keys) new.keys puts)
    ∙ ap (λ (b : Bool). b || has_key old parts) (same_parts-flip parts key.items)
    ∙ chosen (pointwise same_part key.items parts) (has_key old parts)
  where
    chosen : (b c : Bool) → (b || c) ≡ cond b true c
    chosen true c = refl
    chosen false c = refl
has_key-more {A} old new key false e puts parts =
    ap (λ (ks : List (Vec Part A)). list_any (λ k. pointwise same_part parts k.items) ks) puts
    ∙ there (pointwise same_part key.items parts) refl
  where
    had : (b : Bool) → false ≡ not b → b ≡ true
    had true e = refl
    had false e = cc

    there : (b : Bool) → pointwise same_part key.items parts ≡ b →
        has_key old parts ≡ cond b true (has_key old parts)
    there true same =
        ap (has_key old) (sym ((same_parts-Decides key.items parts).0 same)) ∙ had (has_key old key.items) e
    there false same = refl

-- two tests that agree keep the same
pub filter-alike : {X : Type 0} (p q : X → Bool) → ((x : X) → p x ≡ q x) → (xs : List X) → filter p xs ≡ filter q xs
filter-alike p q alike [] = refl
filter-alike {X} p q alike (x ∷ xs) =
    ap (λ (b : Bool). cond b (x ∷ filter p xs) (filter p xs)) (alike x)
    ∙ ap (λ (ys : List X). cond (q x) (x ∷ ys) ys) (filter-alike p q alike xs)
