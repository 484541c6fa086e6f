-- The rule holds of a depot at the start.
use Rattle.std.proofs.Common.{◌≡◌, ◌≢◌, ℕ, zero, suc, ◌+◌, ◌<◌, ◌≤◌, List, [], ◌∷◌, ◌++◌, length, map, replicate, refl, sym, ap, ◌∙◌, subst, ⊎_elim, arith, ◌-◌}
use Rattle.std.specs.Prelude.{slice_index}
use Rattle.std.specs.List.{range_with_len}
use Rattle.std.proofs.lemmas.Bool.{cases_lt}
use Rattle.std.proofs.lemmas.List.{get_or_append_left, get_or-append_right, get_or_past, append_assoc, length-append, length-replicate, length-map}
use Rattle.std.proofs.lemmas.List.FromFn.{get_or-range_with_len, length-range_with_len}
use Rattle.std.proofs.lemmas.List.Sums.{sum_by-cons}
use mathlib.Core.Option as maybe
use mathlib.Core.Option.{some, none, some-injective, some-ne-none}
use lib.ListN.{get_elem?}
use Rattle.atomic_table.specs.Table.{opening}
use Rattle.commons.specs.Bag.{bag, one}
use Rattle.commons.proofs.Bags.{bag-nil, bag-cons, bag-head}
use Rattle.depot.specs.declared.view.Stack.{Stack}
use Rattle.depot.specs.declared.view.Stack.TheVariants.{Full, Partial, Empty}
use Rattle.depot.specs.declared.view.Shape.{Shape}
use Rattle.depot.specs.declared.view.View.{View}
use Rattle.depot.specs.Bags.{below, total}
use Rattle.depot.specs.Heads.{top_of}
use Rattle.depot.specs.Layout.{link_at, place_at, link_in, head_in, place_in}
use Rattle.depot.specs.Opening.{header, zeros, linked_words, opening_words}
use Rattle.depot.specs.Resting.{all_numbers, numbers, named, out_at, Keeps, Guarded}
use Rattle.depot.specs.Rule.{at_home, hand_of, out_of, Linked, Suits, Knows, Ruled, first_view}
use Rattle.depot.proofs.Bags.{below-at, below-past, below-le, below-inside, one-cases}

-- one number more is below the next bound
below-suc : (n i : ℕ) → below (suc n) i ≡ one n i + below n i
below-suc n i = ⊎_elim
    (λ a. let e = a.1 in let here : n ≡ i = a.0 in
    let p = below-at (suc n) i (omega arith) in let q = below-past n i (omega arith) in omega arith)
    (λ b. let e = b.1 in let apart : n ≢ i = b.0 in ⊎_elim
    (λ (h : i < n). let p = below-at (suc n) i (omega arith) in let q = below-at n i h in omega arith)
    (λ (h : n ≤ i). let strict : n < i = lt_of_le_ne n i h apart in
    let p = below-past (suc n) i (omega arith) in let q = below-past n i h in omega arith)
    (cases_lt i n))
    (one-cases n i)
  where
    lt_of_le_ne : (a b : ℕ) → a ≤ b → a ≢ b → a < b
    lt_of_le_ne a b h n = ⊎_elim (λ x. x) (λ y. absurd (n (omega arith))) (cases_lt a b)

below-zero : (i : ℕ) → below 0 i ≡ 0
below-zero i = below-past 0 i (omega arith)

-- the numbers below n, from the last one on
down : ℕ → List ℕ
down zero = []
down (suc n) = n ∷ down n

bag-down : (n i : ℕ) → bag (down n) i ≡ below n i
unfolding down
bag-down zero i = omega (arith, bag-nil i, below-zero i)
bag-down (suc n) i = let a = bag-cons n (down n) i in let b = bag-down n i in let c = below-suc n i in omega arith

range-from : (a n i : ℕ) → bag (range_with_len a n) i + below a i ≡ below (a + n) i
range-from a zero i = let z = bag-nil i in let e : below (a + 0) i ≡ below a i = ap (λ (k : ℕ). below k i) (omega arith) in omega arith
range-from a (suc n) i =
    let more = range-from (a + 1) n i in
    let cons = bag-cons a (range_with_len (a + 1) n) i in
    let step : below (a + 1) i ≡ one a i + below a i = ap (λ (k : ℕ). below k i) (omega arith) ∙ below-suc a i in
    let same : below (a + 1 + n) i ≡ below (a + suc n) i = ap (λ (k : ℕ). below k i) (omega arith) in
    omega arith

pub bag-range : (n i : ℕ) → bag (range_with_len 0 n) i ≡ below n i
bag-range n i =
    let a = range-from 0 n i in
    let z = below-zero i in
    let same : below (0 + n) i ≡ below n i = ap (λ (k : ℕ). below k i) (omega arith) in
    omega arith

-- the words at the start
header-length : (m : ℕ) → length (header m) ≡ 32
header-length m = refl

linked-length : (m : ℕ) → length (linked_words m) ≡ link_at m
linked-length m =
    let a = length-append (header m) (range_with_len 0 m) in
    let b = header-length m in
    let c = length-range_with_len 0 m in
    omega arith

linked-link : (m j : ℕ) → link_in (linked_words m) j ≡ slice_index (range_with_len 0 m) j
linked-link m j =
    get_or-append_right (header m) (range_with_len 0 m) 32 (32 + j) 0 refl (omega arith)
    ∙ ap (λ (k : ℕ). slice_index (range_with_len 0 m) k) (omega arith)

linked-link-at : (m j : ℕ) → j < m → link_in (linked_words m) j ≡ j
linked-link-at m j h = let a = linked-link m j in let b = get_or-range_with_len 0 m j 0 h in omega arith

linked-link-le : (m j : ℕ) → link_in (linked_words m) j ≤ m
linked-link-le m j = ⊎_elim
    (λ (h : j < m). let a = linked-link-at m j h in omega arith)
    (λ (h : m ≤ j). let a = linked-link m j in
    let b = get_or_past (range_with_len 0 m) j 0 (let c = length-range_with_len 0 m in omega arith) in omega arith)
    (cases_lt j m)

linked-words : (m n : ℕ) → n ≤ m → Linked (linked_words m) n (down n)
unfolding down
linked-words m zero h = refl
linked-words m (suc n) h = (
  refl,
  subst (λ (t : ℕ). Linked (linked_words m) t (down n)) (sym (linked-link-at m n (omega arith)))
      (linked-words m n (omega arith)),
)

-- a word of the first ones is one of all
whole-first : (m p j : ℕ) → j < link_at m → slice_index (opening_words m p) j ≡ slice_index (linked_words m) j
whole-first m p j h =
    get_or_append_left (linked_words m) (zeros p) 0 j (let e = linked-length m in omega arith)

pub opening-length : (m p : ℕ) → length (opening_words m p) ≡ place_at m p
opening-length m p =
    let a = length-append (range_with_len 0 m) (zeros p) in
    let b = length-range_with_len 0 m in
    let z : ℕ = 0 in
    let c : length (zeros p) ≡ p = length-replicate p z in
    omega arith

opening-link : (m p j : ℕ) → j < m → link_in (opening_words m p) j ≡ link_in (linked_words m) j
opening-link m p j h = whole-first m p (link_at j) (omega arith)

opening-head : (m p : ℕ) (k : Stack) → head_in (opening_words m p) k ≡ head_in (linked_words m) k
opening-head m p Full = whole-first m p 8 (omega arith)
opening-head m p Partial = whole-first m p 16 (omega arith)
opening-head m p Empty = whole-first m p 24 (omega arith)

zeros-at : (p j : ℕ) → slice_index (zeros p) j ≡ 0
zeros-at zero j = refl
zeros-at (suc p) zero = refl
zeros-at (suc p) (suc j) = zeros-at p j

-- nobody's number is at a place
opening-place : (m p i : ℕ) → place_in (opening_words m p) m i ≡ 0
opening-place m p i =
    get_or-append_right (linked_words m) (zeros p) (link_at m) (link_at (m + i)) 0 (linked-length m) (omega arith)
    ∙ zeros-at p (link_at (m + i) - link_at m)

opening-linked : (m p top : ℕ) (ms : List ℕ) → ((j : ℕ) → 0 < bag ms j → j < m) → Linked (linked_words m) top ms →
    Linked (opening_words m p) top ms
opening-linked m p top [] inside is = is
opening-linked m p top (x ∷ ms) inside is =
    let cons = bag-cons x ms in (
      is.0,
      subst (λ (t : ℕ). Linked (opening_words m p) t ms)
          (sym (opening-link m p x (inside x (bag-head x ms))))
          (opening-linked m p (link_in (linked_words m) x) ms
          (λ j h. inside j (let c = bag-cons x ms j in omega arith)) is.1),
    )

-- the magazines at the start
abbrev blanks : ℕ → List (List ℕ)
blanks m = replicate m []

blank-at : (m j : ℕ) → j < m → get_elem? (map some (blanks m)) j ≡ some (some [])
blank-at zero j h = absurd (omega arith)
blank-at (suc m) zero h = refl
blank-at (suc m) (suc j) h = blank-at m j (omega arith)

blank-total : (m i : ℕ) → total at_home (map some (blanks m)) i ≡ 0
blank-total zero i = refl
blank-total (suc m) i =
    let a = sum_by-cons (λ (o : maybe.Option (List ℕ)). bag (at_home o) i) (some []) (map some (blanks m)) in
    let b = blank-total m i in
    let c = bag-nil i in
    let goal : total at_home (some [] ∷ map some (blanks m)) i ≡ 0 = omega arith in
    goal

stacks : ℕ → Stack → List ℕ
stacks m Full = []
stacks m Partial = []
stacks m Empty = down m

-- nothing rests at the start
opens-guarded : (p : Shape) (slots : ℕ) (words : List ℕ) → ((i : ℕ) → place_in words slots i ≡ 0) →
    Guarded slots words (first_view p ∷ [])
opens-guarded p slots words placed =
    let v = first_view p in
    let number : (k : ℕ) → named (v ∷ []) k ≡ numbers all_numbers k = λ k.
    let a = sum_by-cons (λ (u : View). numbers u.resting k) v [] in omega arith in
    record {
      once = λ k. let a = number k in let b = below-le 9223372036854775808 k in omega arith;
      nobody = let a = number 0 in let b = below-at 1 0 (omega arith) in let c = below-le 9223372036854775808 0 in omega arith;
      numbered = λ i there. absurd (let e = placed i in omega arith);
      counts = λ i.
          let a = sum_by-cons (λ (u : View). bag u.resting.gets i) v [] in
          let b = sum_by-cons (λ (u : View). bag u.resting.puts i) v [] in
          let c = sum_by-cons (λ (u : View). out_at u.resting (place_in words slots i) i) v [] in
          let d = bag-nil i in
          omega arith;
      keeps = keeps;
    }
  where
    keeps : (id : ℕ) (u : View) → get_elem? (first_view p ∷ []) id ≡ some u → Keeps slots words u.resting
    keeps zero u is =
        subst (λ (x : View). Keeps slots words x.resting) (some-injective (first_view p) u is)
        (λ k i own there.
        let zero_k : k ≡ 0 = sym there ∙ placed i in
        let some_own : 0 < numbers all_numbers 0 = subst (λ (n : ℕ). 0 < numbers all_numbers n) zero_k own in
        let b = below-at 1 0 (omega arith) in let c = below-le 9223372036854775808 0 in absurd (omega arith))
    keeps (suc id) u is = absurd (some-ne-none u (sym is))

pub opens : (p : Shape) (m : ℕ) → m < 65535 → Ruled p (opening (opening_words m p.places) (blanks m) (first_view p))
unfolding stacks
opens p m few =
    let v = first_view p in
    let many : length (map some (blanks m)) ≡ m = length-map (blanks m) some ∙ length-replicate m [] in
    let hands : (i : ℕ) → total hand_of (v ∷ []) i ≡ below p.population i = λ i.
    let a = sum_by-cons (λ (u : View). bag (hand_of u) i) v [] in let b = bag-range p.population i in omega arith in
    let outs : (i : ℕ) → total out_of (v ∷ []) i ≡ 0 = λ i.
    let a = sum_by-cons (λ (u : View). bag (out_of u) i) v [] in let b = bag-nil i in omega arith in
    let placed : (i : ℕ) → place_in (opening_words m p.places) (length (map some (blanks m))) i ≡ 0 = λ i.
    ap (λ (n : ℕ). place_in (opening_words m p.places) n i) many ∙ opening-place m p.places i in
    let top : top_of m ≡ m = omega arith in
    record {
      stacks = stacks m;
      room = omega arith;
      words = opening-length m p.places ∙ ap (λ (n : ℕ). place_at n p.places) (sym many);
      links = λ j within. let a = linked-link-le m j in let b = opening-link m p.places j (omega arith) in omega arith;
      linked = linked;
      places = λ j. let a = outs j in let b = bag-down m j in let c = bag-nil j in
          let d : below (length (map some (blanks m))) j ≡ below m j = ap (λ (n : ℕ). below n j) many in omega arith;
      lone = omega arith;
      elements = λ i. let a = hands i in let b = blank-total m i in
          let c = placed i in omega arith;
      home = home;
      out = λ j there. let a = outs j in absurd (omega arith);
      guarded = opens-guarded p (length (map some (blanks m))) (opening_words m p.places) placed;
      known = known;
    }
  where
    linked : (k : Stack) → Linked (opening_words m p.places) (top_of (head_in (opening_words m p.places) k)) (stacks m k)
    linked Full =
        subst (λ (h : ℕ). Linked (opening_words m p.places) (top_of h) []) (sym (opening-head m p.places Full)) refl
    linked Partial =
        subst (λ (h : ℕ). Linked (opening_words m p.places) (top_of h) []) (sym (opening-head m p.places Partial)) refl
    linked Empty =
        subst (λ (h : ℕ). Linked (opening_words m p.places) (top_of h) (down m)) (sym (opening-head m p.places Empty))
        (opening-linked m p.places (top_of m) (down m)
        (λ j there. let a = bag-down m j in below-inside m j (omega arith))
        (subst (λ (t : ℕ). Linked (linked_words m) t (down m)) (omega arith) (linked-words m m (omega arith))))

    home : (k : Stack) (j : ℕ) → 0 < bag (stacks m k) j →
        (xs : List ℕ) × (get_elem? (map some (blanks m)) j ≡ some (some xs)) × Suits p.rounds k xs
    home Full j there = let a = bag-nil j in absurd (omega arith)
    home Partial j there = let a = bag-nil j in absurd (omega arith)
    home Empty j there =
        let a = bag-down m j in
        ([], blank-at m j (below-inside m j (omega arith)), refl)

    known : (id : ℕ) (u : View) → get_elem? (first_view p ∷ []) id ≡ some u → Knows p (opening_words m p.places) u
    known zero u is = subst (Knows p (opening_words m p.places)) (some-injective (first_view p) u is)
        (record { population = refl; rounds = refl; look = tt; chain = tt })
    known (suc id) u is = absurd (some-ne-none u (sym is))

-- one number more stands at the end
pub range-last : (a n : ℕ) → range_with_len a n ++ (a + n) ∷ [] ≡ range_with_len a (suc n)
range-last a zero = ap (λ (k : ℕ). k ∷ []) (omega arith)
range-last a (suc n) =
    ap (λ (k : ℕ). a ∷ (range_with_len (a + 1) n ++ k ∷ [])) (omega arith) ∙ ap (λ xs. a ∷ xs) (range-last (a + 1) n)

pub pushed-range : (ws now new : List ℕ) (i : ℕ) → now ≡ ws ++ range_with_len 0 i → new ≡ now ++ i ∷ [] →
    new ≡ ws ++ range_with_len 0 (i + 1)
pushed-range ws now new i had is =
    let from : i ≡ 0 + i = omega arith in
    let one_more : suc i ≡ i + 1 = omega arith in
    is ∙ ap (λ xs. xs ++ i ∷ []) had ∙ append_assoc ws (range_with_len 0 i) (i ∷ [])
    ∙ ap (λ (k : ℕ). ws ++ (range_with_len 0 i ++ k ∷ [])) from
    ∙ ap (λ xs. ws ++ xs) (range-last 0 i)
    ∙ ap (λ (k : ℕ). ws ++ range_with_len 0 k) one_more

-- all elements are lent at the start
pub first-lent : (p : ℕ) (xs : List ℕ) → xs ≡ range_with_len 0 p → (i : ℕ) → i < p → bag xs i ≡ 1
first-lent p xs is i h = ap (λ ys. bag ys i) is ∙ bag-range p i ∙ below-at p i h

-- a run of numbers has each of them once, and no other
pub run-few : (a n : ℕ) (xs : List ℕ) → xs ≡ range_with_len a n → (i : ℕ) → bag xs i ≤ 1
run-few a n xs is i =
    let e = ap (λ ys. bag ys i) is in let f = range-from a n i in let g = below-le (a + n) i in omega arith

pub run-low : (a n : ℕ) (xs : List ℕ) → xs ≡ range_with_len a n → (i : ℕ) → i < a → bag xs i ≡ 0
run-low a n xs is i h =
    let e = ap (λ ys. bag ys i) is in let f = range-from a n i in
    let g = below-at (a + n) i (omega arith) in let k = below-at a i h in omega arith

pub run-high : (a n : ℕ) (xs : List ℕ) → xs ≡ range_with_len a n → (i : ℕ) → a + n ≤ i → bag xs i ≡ 0
run-high a n xs is i h =
    let e = ap (λ ys. bag ys i) is in let f = range-from a n i in let g = below-past (a + n) i h in omega arith

pub run-in : (a n : ℕ) (xs : List ℕ) → xs ≡ range_with_len a n → (i : ℕ) → a ≤ i → i < a + n → bag xs i ≡ 1
run-in a n xs is i h k =
    let e = ap (λ ys. bag ys i) is in let f = range-from a n i in
    let g = below-at (a + n) i k in let l = below-past a i h in omega arith

-- a run of what hasn't been put yet is lent
pub run-lent : (a n p : ℕ) (xs : List ℕ) (had first : ℕ → ℕ) → xs ≡ range_with_len a n → a + n ≤ p →
    ((i : ℕ) → i < p → 1 ≤ first i) → ((i : ℕ) → a ≤ i → had i ≡ first i) → (i : ℕ) → bag xs i ≤ had i
run-lent a n p xs had first is within all before i = ⊎_elim
    (λ (h : i < a). let e = run-low a n xs is i h in omega arith)
    (λ (h : a ≤ i). ⊎_elim
    (λ (k : i < a + n).
    let e = run-few a n xs is i in let f = before i h in let g = all i (omega arith) in omega arith)
    (λ (k : a + n ≤ i). let e = run-high a n xs is i k in omega arith)
    (cases_lt i (a + n)))
    (cases_lt i a)

-- once a run has been put, it is lent once less, as is what was put before
pub put-so-far : (a n : ℕ) (xs : List ℕ) (had has first : ℕ → ℕ) → xs ≡ range_with_len a n →
    ((i : ℕ) → i < a → had i + 1 ≡ first i) → ((i : ℕ) → a ≤ i → had i ≡ first i) →
    ((i : ℕ) → has i + bag xs i ≡ had i) → (i : ℕ) → i < a + n → has i + 1 ≡ first i
put-so-far a n xs had has first is done before put i h = ⊎_elim
    (λ (k : i < a).
    let e = run-low a n xs is i k in let f = done i k in let g = put i in omega arith)
    (λ (k : a ≤ i).
    let e = run-in a n xs is i k h in let f = before i k in let g = put i in omega arith)
    (cases_lt i a)

-- what is behind it stays as it was
pub others-stay : (a n : ℕ) (xs : List ℕ) (had has first : ℕ → ℕ) → xs ≡ range_with_len a n →
    ((i : ℕ) → a ≤ i → had i ≡ first i) → ((i : ℕ) → has i + bag xs i ≡ had i) →
    (i : ℕ) → a + n ≤ i → has i ≡ first i
others-stay a n xs had has first is before put i h =
    let e = run-high a n xs is i h in let f = before i (omega arith) in let g = put i in omega arith

zero-last : (n : ℕ) → zeros n ++ 0 ∷ [] ≡ zeros (suc n)
zero-last zero = refl
zero-last (suc n) = ap (λ xs. 0 ∷ xs) (zero-last n)

pub pushed-zero : (ws now new : List ℕ) (i : ℕ) → now ≡ ws ++ zeros i → new ≡ now ++ 0 ∷ [] →
    new ≡ ws ++ zeros (i + 1)
pushed-zero ws now new i had is =
    let one_more : suc i ≡ i + 1 = omega arith in
    is ∙ ap (λ xs. xs ++ 0 ∷ []) had ∙ append_assoc ws (zeros i) (0 ∷ [])
    ∙ ap (λ xs. ws ++ xs) (zero-last i)
    ∙ ap (λ (k : ℕ). ws ++ zeros k) one_more
