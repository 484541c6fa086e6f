-- The walk along the links of a list gives the list.
use Rattle.std.proofs.Common.{ℕ, zero, suc, ◌≡◌, ◌+◌, ◌<◌, ◌≤◌, nat_lt, true, List, [], ◌∷◌, ◌++◌, add-one, length, map, get_or, refl, ap, ◌∙◌, arith}
use Rattle.std.specs.Prelude.{All}
use Rattle.std.specs.List.{range_with_len}
use Rattle.std.proofs.lemmas.Bool.{cond-false, cond-true, eq-eqb, ne_eqb}
use Rattle.std.proofs.lemmas.Bool.Decides.{nat_tests}
use Rattle.std.proofs.lemmas.List.Elements.{All-head, All-tail}
use Rattle.commons.specs.Bag.{bag}
use Rattle.commons.specs.Closing.{link_in, top_word}
use Rattle.commons.proofs.Bags.{bag-cons, bag-head, one-same}
use Rattle.commons.proofs.Closings.{link_at}
use Rattle.snapshot.specs.Snapshots.{words_from}
use Rattle.snapshot.proofs.Walks.{IsBelow, words_of}

-- the link of each element of a list names what follows it there
abbrev pub AreLinked : List ℕ → List ℕ → Type 0
AreLinked links [] = Unit {0}
AreLinked links (x ∷ xs) = (get_or links x 0 ≡ top_word xs) × AreLinked links xs

-- an element that isn't the first has its link from the rest
link_behind : (x e : ℕ) (xs : List ℕ) → bag (x ∷ xs) x ≤ 1 → 0 < bag xs e → link_in (x ∷ xs) e ≡ link_in xs e
link_behind x e xs once there =
    cond-false _ (top_word xs) (link_in xs e) (ne_eqb x e (λ same. let one : bag (x ∷ xs) x
    ≡ 1 + bag xs x =
    bag-cons x xs x ∙ omega (arith, one-same x) in
    let again : bag xs x ≡ bag xs e = ap (bag xs) same in omega (arith, once, one, again, there)))

-- so it is where each has its link in the list, and no element stands there twice
linked_each : (links xs : List ℕ) → ((e : ℕ) → 0 < bag xs e → get_or links e 0 ≡ link_in xs e) →
    ((e : ℕ) → bag xs e ≤ 1) → AreLinked links xs
linked_each links [] h once = tt
linked_each links (x ∷ xs) h once = (
  h x (bag-head x xs) ∙ cond-true _ (top_word xs) (link_in xs x) (eq-eqb x x refl),
  linked_each links xs
      (λ e there. h e (omega (arith, there, bag-cons x xs e)) ∙ link_behind x e xs (once x) there)
      (λ e. omega (arith, once e, bag-cons x xs e)),
)

-- the links of a list of distinct elements of the population
pub linked : (population : ℕ) (xs : List ℕ) → ((e : ℕ) → 0 < bag xs e → e < population) →
    ((e : ℕ) → bag xs e ≤ 1) → AreLinked (map (link_in xs) (range_with_len 0 population)) xs
linked population xs below once =
    linked_each (map (link_in xs) (range_with_len 0 population)) xs
    (λ e there. link_at xs population e (below e there)) once

-- the word 0 ends a walk, however long it may be yet
end_of_words : (most population : ℕ) (links : List ℕ) → words_from most population links 0 ≡ 0 ∷ []
end_of_words zero population links = refl
end_of_words (suc most) population links = refl

-- the words that are met along them
pub words_linked : (most population : ℕ) (links xs : List ℕ) → AreLinked links xs →
    All (IsBelow population) xs → length xs ≤ most →
    words_from most population links (top_word xs) ≡ words_of xs ++ 0 ∷ []
words_linked most population links [] h below few = end_of_words most population links
words_linked zero population links (x ∷ xs) h below few = absurd (omega arith)
words_linked (suc most) population links (x ∷ xs) h below few =
    let first : x < population = All-head (IsBelow population) x xs below in
    let yes : nat_lt x population ≡ true = grind (arith, nat_tests) in
    let next =
    ap (words_from most population links) h.0
    ∙ words_linked most population links xs h.1 (All-tail (IsBelow population) x xs below)
    (omega (arith, few)) in
    rw (add-one, yes) (ap (λ (ws : List ℕ). suc x ∷ ws) next)
