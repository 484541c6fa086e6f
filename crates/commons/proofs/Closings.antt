-- The words that a closed site leaves.
use Rattle.std.proofs.Common.{ℕ, ◌≡◌, ◌+◌, ◌<◌, inl, inr, List, [], ◌∷◌, length, length-set, map, set, get_or, get_or-set_same, get_or-set_other, replicate, reverse, take, sym, ap, ◌∙◌, refl, arith}
use Rattle.std.specs.Prelude.{All, max}
use Rattle.std.specs.List.{range_with_len}
use Rattle.std.proofs.lemmas.Bool.{cases_eq, cond-true, cond-false, eq-eqb, ne_eqb}
use Rattle.std.proofs.lemmas.Grind.{same_number_lists}
use Rattle.std.proofs.lemmas.List.{get_or-map, get_or-replicate, get_or_past, length-map, length-replicate, reverse-append, take_more}
use Rattle.std.proofs.lemmas.List.FromFn.{get_or-map-range_with_len, length-map-range_with_len}
use Rattle.commons.specs.Closing.{link_in, top_word}
use Rattle.commons.specs.declared.place.Place.{Place}
use Rattle.commons.specs.Bag.{bag}
use Rattle.commons.specs.Lists.{Lists, IsTable, held_count, in_common, nowhere}
use Rattle.commons.proofs.Bags.{bag-reverse}
use Rattle.commons.proofs.Tables.{all_below}

-- the link of an element, as it stands among all
pub link_at : (xs : List ℕ) (n k : ℕ) → k < n → get_or (map (link_in xs) (range_with_len 0 n)) k 0 ≡ link_in xs k
link_at xs n k h = get_or-map-range_with_len (link_in xs) 0 n k k 0 h (omega arith)

-- in an empty list no element has a link
pub none_linked : (n : ℕ) → replicate n 0 ≡ map (link_in []) (range_with_len 0 n)
none_linked n =
    same_number_lists (replicate n 0) (map (link_in []) (range_with_len 0 n))
    (length-replicate {A = ℕ} n 0 ∙ sym (length-map-range_with_len (link_in []) 0 n))
    (λ k h. let within : k < n =
    omega (arith, h, length-replicate {A = ℕ} n 0) in get_or-replicate n k 0 0 within
    ∙ sym (link_at [] n k within))

-- an element that comes to stand on top has the word of what was there
pub one_linked : (xs : List ℕ) (n x : ℕ) → x < n →
    set (map (link_in xs) (range_with_len 0 n)) x (top_word xs)
    ≡ map (link_in (x ∷ xs)) (range_with_len 0 n)
one_linked xs n x h =
    let links : List ℕ = map (link_in xs) (range_with_len 0 n) in
    let long : length links ≡ n = length-map-range_with_len (link_in xs) 0 n in
    let same : length (set links x (top_word xs)) ≡ n = length-set links x (top_word xs) ∙ long in
    same_number_lists (set links x (top_word xs)) (map (link_in (x ∷ xs)) (range_with_len 0 n))
    (same ∙ sym (length-map-range_with_len (link_in (x ∷ xs)) 0 n))
    (λ k b.
    let within : k < n = omega (arith, b, same) in
    let there = link_at (x ∷ xs) n k within in
    elim (cases_eq x k) [
      | inl e ↦
          let new = get_or-set_same links x (top_word xs) 0 (omega (arith, h, long)) in
          ap (λ (j : ℕ). get_or (set links x (top_word xs)) j 0) (sym e) ∙ new
          ∙ sym (there ∙ cond-true _ (top_word xs) (link_in xs k) (eq-eqb x k e))
      | inr e ↦
          let old = get_or-set_other links x k (top_word xs) 0 (λ f. e (sym f)) in
          old ∙ link_at xs n k within ∙ sym (there ∙ cond-false _ (top_word xs) (link_in xs k) (ne_eqb x k e))
    ])

-- the list so far with one element more, its top last
pub more_on_top : (xs : List ℕ) (i : ℕ) → i < length xs →
    reverse (take (i + 1) xs) ≡ get_or xs i 0 ∷ reverse (take i xs)
more_on_top xs i h = rw (take_more xs i 0 h, reverse-append) refl

-- counts that are read place by place are those of the elements, in their order
pub counts_by_element : (places : List Place) (n : ℕ) → length places ≡ n →
    map (λ place. max 1 (held_count place)) places
    ≡ map (λ i. max 1 (held_count (get_or places i nowhere))) (range_with_len 0 n)
counts_by_element places n e =
    let by_place = λ (place : Place). max 1 (held_count place) in
    let by_element = λ (i : ℕ). max 1 (held_count (get_or places i nowhere)) in
    same_number_lists (map by_place places) (map by_element (range_with_len 0 n))
    (length-map places by_place ∙ e ∙ sym (length-map-range_with_len by_element 0 n))
    (λ k h.
    let within : k < length places = omega (arith, h, length-map places by_place) in
    get_or-map by_place places k nowhere 0 within
    ∙ sym
    (get_or-map-range_with_len by_element 0 n k k 0 (omega (arith, within, e)) (omega arith)))

-- the elements of a common list, kept with its top at the end, are the pool's
pub common_below : (s : Lists) (xs : List ℕ) → IsTable s → s.common ≡ reverse xs → All (λ x. x < s.limits.population) xs
common_below s xs t e =
    all_below s.limits.population xs (λ i h. sym (bag-reverse xs i)
    ∙ ap (λ (ys : List ℕ). bag ys i) (sym e) ∙ t.shown i
    ∙ ap in_common (get_or_past s.places i nowhere (omega (arith, h, t.elements))))
