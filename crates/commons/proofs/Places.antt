-- Laws of places, of the holds of a row for each worker, and of headers.
use Rattle.std.proofs.Common.{ℕ, zero, suc, ◌≡◌, ◌≢◌, ◌<◌, ◌≤◌, ◌==◌, ◌⊎◌, inl, inr, cond, List, [], ◌∷◌, length, get_or, set, length-set, get_or-set_same, get_or-set_other, refl, ◌∙◌, ap, arith}
use Rattle.std.proofs.lemmas.List.{get_or_past}
use Rattle.std.proofs.lemmas.Bool.{cases_lt}
use Rattle.std.proofs.lemmas.Bool.Decides.{nat_tests}
use Rattle.commons.specs.declared.place.Place.{Place}
use Rattle.commons.specs.declared.place.Place.TheVariants.{Common, Hand, Held}
use Rattle.commons.specs.Bag.{bag, one}
use Rattle.commons.specs.Lists.{nowhere, in_common, in_hand, held_count, weight, placed}
use Rattle.commons.proofs.Bags.{bag-nil, bag-cons}

-- a number is 0, or above it
pub zero_or_more : (n : ℕ) → (n ≡ 0) ⊎ (0 < n)
zero_or_more zero = inl refl
zero_or_more (suc n) = inr (omega arith)

pub apart_or_same : (i j : ℕ) → (j ≡ i) ⊎ (j ≢ i)
apart_or_same i j = grind arith

one-other : (x i : ℕ) → one x i ≡ 0 → i ≢ x
one-other x i h = grind (arith, nat_tests)

pub one-is : (x i : ℕ) → 0 < one x i → x ≡ i
one-is x i h = grind (arith, nat_tests)

pub one-apart : (x i : ℕ) → i ≢ x → one x i ≡ 0
one-apart x i h = grind (arith, nat_tests)

-- elements that change places leave the list of places as long as it was
pub length-placed : {A : Type 0} (xs : List ℕ) (p : A) (places : List A) → length (placed xs p places) ≡ length places
length-placed [] p places = refl
length-placed (x ∷ xs) p places = length-placed xs p (set places x p) ∙ length-set places x p

-- an element that is not in the list keeps its place
pub placed-out : {A : Type 0} (xs : List ℕ) (p d : A) (places : List A) (i : ℕ) → bag xs i ≡ 0 →
    get_or (placed xs p places) i d ≡ get_or places i d
placed-out [] p d places i h = refl
placed-out (x ∷ xs) p d places i h =
    let other : i ≢ x = one-other x i (omega (arith, bag-cons x xs i)) in
    placed-out xs p d (set places x p) i (omega (arith, bag-cons x xs i)) ∙ get_or-set_other places x i p d other

-- an element that is in the list has the new place
pub placed-in : {A : Type 0} (xs : List ℕ) (p d : A) (places : List A) (i : ℕ) → 0 < bag xs i →
    i < length places → get_or (placed xs p places) i d ≡ p
placed-in [] p d places i h l = absurd (omega (arith, bag-nil i))
placed-in (x ∷ xs) p d places i h l =
    elim (zero_or_more (bag xs i)) [
      | inl z ↦
          let e : x ≡ i = one-is x i (omega (arith, bag-cons x xs i)) in
          placed-out xs p d (set places x p) i z ∙ (rw e (get_or-set_same places i p d l))
      | inr q ↦ placed-in xs p d (set places x p) i q (omega (arith, length-set places x p))
    ]

-- an element is in the common list at most once
pub in_common-le : (p : Place) → in_common p ≤ 1
in_common-le Common = omega arith
in_common-le (Hand v) = omega arith
in_common-le (Held n) = omega arith

pub in_hand-same : (w : ℕ) → in_hand w (Hand w) ≡ 1
in_hand-same w = grind (arith, nat_tests)

pub in_hand-other : (v w : ℕ) → v ≢ w → in_hand v (Hand w) ≡ 0
in_hand-other v w h = grind (arith, nat_tests)

-- an element that counts as one of the common list has that place
pub is_common : (p : Place) → 0 < in_common p → p ≡ Common
is_common Common h = refl
is_common (Hand v) h = absurd (omega arith)
is_common (Held n) h = absurd (omega arith)

hand_is : (v w : ℕ) → ◌<◌ 0 (cond (v == w) 1 0) → v ≡ w
hand_is v w h = grind (arith, nat_tests)

-- an element that counts as one of a worker's hand has that hand for its place
pub is_hand : (w : ℕ) (p : Place) → 0 < in_hand w p → p ≡ Hand w
is_hand w Common h = absurd (omega arith)
is_hand w (Hand v) h = ap Hand (hand_is v w h)
is_hand w (Held n) h = absurd (omega arith)

-- an element that is held has the place of a held one
pub held_only : (p : Place) → 0 < held_count p → p ≡ Held (held_count p)
held_only Common h = absurd (omega arith)
held_only (Hand v) h = absurd (omega arith)
held_only (Held n) h = refl

-- the hand of a worker of the pool is a place that an element can have
pub weight-hand : (workers w : ℕ) → 1 ≤ w → w ≤ workers → 0 < weight workers (Hand w)
weight-hand workers zero l h = absurd (omega arith)
weight-hand workers (suc v) l h = omega arith

-- an element that has a place stands in the list of places
pub stands : (places : List Place) (i : ℕ) → ((get_or places i nowhere ≡ nowhere) → ⊥) → i < length places
stands places i h =
    elim (cases_lt i (length places))
    [ inl l ↦ l | inr l ↦ absurd (h (get_or_past places i nowhere l)) ]

pub stands_in_common : (places : List Place) (i : ℕ) → 0 < in_common (get_or places i nowhere) → i < length places
stands_in_common places i h = stands places i (λ e. let k = rw e at h in omega arith)

pub stands_in_hand : (places : List Place) (w i : ℕ) → 0 < in_hand w (get_or places i nowhere) → i < length places
stands_in_hand places w i h = stands places i (λ e. let k = rw e at h in omega arith)

-- what stands in a list isn't its default
pub counted_in : (xs : List ℕ) (i : ℕ) → 0 < get_or xs i 0 → i < length xs
counted_in xs i h = elim (cases_lt i (length xs)) [ inl l ↦ l | inr l ↦ absurd (omega (arith, get_or_past xs i 0 l)) ]
