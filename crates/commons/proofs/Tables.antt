-- What the calls do to a table: each keeps it, and what the other workers have.
use Rattle.std.proofs.Common.{length-append, ◌≡◌, ◌≢◌, ℕ, ◌+◌, ◌-◌, ◌<◌, ◌≤◌, ◌⊎◌, inl, inr, zero, suc, List, [], ◌∷◌, ◌++◌, length, take, drop, reverse, get_or, set, length-set, get_or-set_same, get_or-set_other, Some, None, refl, sym, ◌∙◌, arith, All}
use Rattle.std.proofs.lemmas.List.{get_or_past}
use Rattle.std.proofs.lemmas.Bool.{cases_lt}
use Rattle.commons.specs.declared.place.Place.{Place}
use Rattle.commons.specs.declared.place.Place.TheVariants.{Common, Hand, Held}
use Rattle.commons.specs.Bag.{bag}
use Rattle.commons.specs.Calls.{spent}
use Rattle.commons.specs.Lists.{Lists, IsTable, KeepsOthers, nowhere, place_of, in_common, in_hand, held_count, weight, hand_of, holds_of_all, placed, with_hold, after_get, after_put, after_claim}
use Rattle.commons.specs.inside.ListLaws.{in_hand-le, hand_below_lem}
use Rattle.commons.specs.Packets.{held_in}
use Rattle.commons.proofs.PacketBags.{own_in-held}
use Rattle.commons.proofs.Bags.{bag-nil, bag-cons, bag-take-drop, bag-append, bag-reverse, bag-head, length-le}
use Rattle.commons.proofs.Places.{zero_or_more, apart_or_same, length-placed, placed-out, placed-in, in_common-le, in_hand-same, in_hand-other, is_common, is_hand, weight-hand, stands_in_common, stands_in_hand}
use Rattle.commons.proofs.Holds.{hold_le, sum-elsewhere, sum-there, length-row, row-there, row-elsewhere, row-other, owner_is, owned_at, owned_by_all}

-- at another element each row is as it was
pub hold_elsewhere : (holds : List (List ℕ)) (w i n v j : ℕ) → w - 1 < length holds → 1 ≤ v → j ≢ i →
    get_or (get_or (with_hold w i n holds) (v - 1) []) j 0 ≡ get_or (get_or holds (v - 1) []) j 0
hold_elsewhere holds w i n v j k l e =
    elim (apart_or_same (w - 1) (v - 1)) [
      | inl f ↦ rw f (row-elsewhere holds (w - 1) i n j k e)
      | inr f ↦ row-other holds (w - 1) i n (v - 1) j f
    ]

-- another worker's row is as it was
pub hold_of_other : (holds : List (List ℕ)) (w i n v j : ℕ) → 1 ≤ w → 1 ≤ v → v ≢ w →
    get_or (get_or (with_hold w i n holds) (v - 1) []) j 0 ≡ get_or (get_or holds (v - 1) []) j 0
hold_of_other holds w i n v j k l e = row-other holds (w - 1) i n (v - 1) j (λ f. e (omega arith))

-- lists with another common list, other places and another number of changes
moved : Lists → List ℕ → List Place → ℕ → Lists
moved s common places changes = record s { common = common; places = places; changes = changes }

-- elements that moved from one place to another, of which none is held, leave a table
table_moved : (s : Lists) (common : List ℕ) (places : List Place) (changes : ℕ) (old new : Place) → IsTable s →
    length places ≡ length s.places → held_count old ≡ 0 → held_count new ≡ 0 →
    0 < weight s.limits.workers new → changes ≤ spent →
    ((i : ℕ) → ((get_or places i nowhere ≡ place_of s i) × (bag common i ≡ bag s.common i))
    ⊎ ((place_of s i ≡ old) × (get_or places i nowhere ≡ new) × (bag common i ≡ in_common new))) →
    IsTable (moved s common places changes)
unfolding moved
table_moved s common places changes old new t len a b w c each = record {
  pool = t.pool;
  elements = len ∙ t.elements;
  shown = λ i. elim (each i) [
    | inl h ↦ rw h.0 (h.1 ∙ t.shown i)
    | inr h ↦ rw h.1 h.2
  ];
  somewhere = λ i l. elim (each i) [
    | inl h ↦ rw h.0 (t.somewhere i l)
    | inr h ↦ rw h.1 w
  ];
  workers = t.workers;
  rows = t.rows;
  counted = λ i. elim (each i) [
    | inl h ↦ rw h.0 (t.counted i)
    | inr h ↦ let k = rw h.0 at (t.counted i) in rw h.1 (omega (arith, k, a, b))
  ];
  limited = λ i. elim (each i) [
    | inl h ↦ rw h.0 (t.limited i)
    | inr h ↦ rw h.1 (omega (arith, b))
  ];
  header_places = t.header_places;
  owned = t.owned;
  headers_held = t.headers_held;
  headers_apart = t.headers_apart;
  desks = t.desks;
  changed = c;
}

-- the parts of the others stay where neither place is in their hands
others_moved : (s : Lists) (common : List ℕ) (places : List Place) (changes : ℕ) (old new : Place) (w : ℕ) →
    ((v : ℕ) → v ≢ w → in_hand v old ≡ in_hand v new) →
    ((i : ℕ) → ((get_or places i nowhere ≡ place_of s i) × (bag common i ≡ bag s.common i))
    ⊎ ((place_of s i ≡ old) × (get_or places i nowhere ≡ new) × (bag common i ≡ in_common new))) →
    KeepsOthers w s (moved s common places changes)
unfolding moved
others_moved s common places changes old new w same each = record {
  hands = λ v i h. elim (each i) [
    | inl e ↦ rw e.0 refl
    | inr e ↦ rw (e.0, e.1) (sym (same v h))
  ];
  holds = λ v i l h. refl;
  headers = λ v i h. refl;
}

-- a get moves elements from the common list into a hand
got_each : (s : Lists) (w n : ℕ) → IsTable s → (i : ℕ) →
    ((get_or (placed (take n s.common) (Hand w) s.places) i nowhere ≡ place_of s i)
    × (bag (drop n s.common) i ≡ bag s.common i))
    ⊎ ((place_of s i ≡ Common)
    × (get_or (placed (take n s.common) (Hand w) s.places) i nowhere ≡ Hand w)
    × (bag (drop n s.common) i ≡ in_common (Hand w)))
got_each s w n t i =
    let a = bag-take-drop n s.common i in
    elim (zero_or_more (bag (take n s.common) i)) [
      | inl z ↦ inl (placed-out (take n s.common) (Hand w) nowhere s.places i z, omega (arith, a))
      | inr p ↦
          let c : 0 < in_common (place_of s i) = omega (arith, t.shown i, a) in
          inr (
            is_common (place_of s i) c,
            placed-in (take n s.common) (Hand w) nowhere s.places i p (stands_in_common s.places i c),
            omega (arith, t.shown i, a, in_common-le (place_of s i)),
          )
    ]

-- the top elements are in the hand instead of in the list, so the table still shows each once
pub table_get : (s : Lists) (w n : ℕ) → IsTable s → 1 ≤ w → w ≤ s.limits.workers →
    s.changes < spent → IsTable (after_get w n s)
unfolding moved
table_get s w n t l h c =
    table_moved s (drop n s.common) (placed (take n s.common) (Hand w) s.places) (s.changes + 1) Common (Hand w) t
    (length-placed (take n s.common) (Hand w) s.places) refl refl
    (weight-hand s.limits.workers w l h) (omega arith) (got_each s w n t)

-- what leaves the common list comes to this worker's hand, so no other one's changes
pub others_get : (s : Lists) (w n : ℕ) → IsTable s → KeepsOthers w s (after_get w n s)
unfolding moved
others_get s w n t =
    others_moved s (drop n s.common) (placed (take n s.common) (Hand w) s.places) (s.changes + 1) Common (Hand w) w
    (λ v h. sym (in_hand-other v w h)) (got_each s w n t)

-- a get brings its elements into the hand
pub hand_get : (s : Lists) (w n : ℕ) → IsTable s → (i : ℕ) →
    hand_of (after_get w n s) w i ≡ hand_of s w i + bag (take n s.common) i
hand_get s w n t i =
    let a = bag-take-drop n s.common i in
    elim (zero_or_more (bag (take n s.common) i)) [
      | inl z ↦ rw (placed-out (take n s.common) (Hand w) nowhere s.places i z, z) (omega arith)
      | inr p ↦
          let c : 0 < in_common (place_of s i) = omega (arith, t.shown i, a) in
          let e = is_common (place_of s i) c in
          let k : bag (take n s.common) i ≡ 1 = omega (arith, t.shown i, a, in_common-le (place_of s i)) in
          rw (
            placed-in (take n s.common) (Hand w) nowhere s.places i p
                (stands_in_common s.places i c),
            e,
            k,
          ) (in_hand-same w)
    ]

-- a put moves elements from a hand into the common list
put_each : (s : Lists) (w : ℕ) (xs : List ℕ) → IsTable s → ((i : ℕ) → bag xs i ≤ hand_of s w i) → (i : ℕ) →
    ((get_or (placed xs Common s.places) i nowhere ≡ place_of s i) × (bag (reverse xs ++ s.common) i ≡ bag s.common i))
    ⊎ ((place_of s i ≡ Hand w) × (get_or (placed xs Common s.places) i nowhere ≡ Common)
    × (bag (reverse xs ++ s.common) i ≡ in_common Common))
put_each s w xs t h i =
    let a = bag-append (reverse xs) s.common i in
    let b = bag-reverse xs i in
    elim (zero_or_more (bag xs i)) [
      | inl z ↦ inl (placed-out xs Common nowhere s.places i z, omega (arith, a, b))
      | inr p ↦
          let c : 0 < in_hand w (place_of s i) = omega (arith, h i) in
          let e = is_hand w (place_of s i) c in
          let k = rw e at (t.shown i) in
          inr (
            e,
            placed-in xs Common nowhere s.places i p (stands_in_hand s.places w i c),
            omega (arith, a, b, k, h i, in_hand-le w (place_of s i)),
          )
    ]

-- the elements are in the list instead of in the hand, so the table still shows each once
pub table_put : (s : Lists) (w : ℕ) (xs : List ℕ) → IsTable s →
    ((i : ℕ) → bag xs i ≤ hand_of s w i) → s.changes < spent → IsTable (after_put xs s)
unfolding moved
table_put s w xs t h c =
    table_moved s (reverse xs ++ s.common) (placed xs Common s.places) (s.changes + 1) (Hand w) Common t
    (length-placed xs Common s.places) refl refl (omega arith) (omega arith) (put_each s w xs t h)

-- what leaves this worker's hand comes to the common list, so no other one's changes
pub others_put : (s : Lists) (w : ℕ) (xs : List ℕ) → IsTable s →
    ((i : ℕ) → bag xs i ≤ hand_of s w i) → KeepsOthers w s (after_put xs s)
unfolding moved
others_put s w xs t h =
    others_moved s (reverse xs ++ s.common) (placed xs Common s.places) (s.changes + 1) (Hand w) Common w
    (λ v e. in_hand-other v w e) (put_each s w xs t h)

-- a hand has an element at most once, so what was put has left it, and all else is still there
pub hand_put : (s : Lists) (w : ℕ) (xs : List ℕ) → ((i : ℕ) → bag xs i ≤ hand_of s w i) → (i : ℕ) →
    hand_of s w i ≡ hand_of (after_put xs s) w i + bag xs i
hand_put s w xs h i =
    elim (zero_or_more (bag xs i)) [
      | inl z ↦ rw (placed-out xs Common nowhere s.places i z, z) (omega arith)
      | inr p ↦
          let c : 0 < in_hand w (place_of s i) = omega (arith, h i) in
          rw (placed-in xs Common nowhere s.places i p (stands_in_hand s.places w i c))
          (omega (arith, h i, in_hand-le w (place_of s i)))
    ]

-- no element is both in the common list and in a hand
pub apart : (w : ℕ) (p : Place) → in_common p + in_hand w p ≤ 1
apart w Common = omega arith
apart w (Hand v) = omega (arith, in_hand-le w (Hand v))
apart w (Held n) = omega arith

-- past the places there is no element in the common list or in a hand
past : (w : ℕ) (places : List Place) (i : ℕ) → length places ≤ i →
    in_common (get_or places i nowhere) + in_hand w (get_or places i nowhere) ≡ 0
past w places i l = rw (get_or_past places i nowhere l) refl

-- the common list, with elements of a hand, is at most the population
pub room_put : (s : Lists) (w : ℕ) (xs : List ℕ) → IsTable s →
    ((i : ℕ) → bag xs i ≤ hand_of s w i) → length s.common + length xs ≤ s.limits.population
room_put s w xs t h =
    let e = length-le s.limits.population (s.common ++ xs)
    (λ i. omega (arith, bag-append s.common xs i, t.shown i, h i, apart w (place_of s i)))
    (λ i l. omega (arith, bag-append s.common xs i, t.shown i, h i, past w s.places i (omega (arith, t.elements)))) in
    omega (arith, e, length-append s.common xs)

-- what is in a hand is below the population
pub in_range : (s : Lists) (w i : ℕ) → IsTable s → 0 < hand_of s w i → i < s.limits.population
in_range s w i t h = omega (arith, stands_in_hand s.places w i h, t.elements)

-- the common list is no longer than the population
pub length_common : (s : Lists) → IsTable s → length s.common ≤ s.limits.population
length_common s t = omega (arith, room_put s 0 [] t (λ i. omega (arith, bag-nil i)))

-- a worker of the pool has a row of holds, with a number for each element
pub row_below : (s : Lists) (w : ℕ) → IsTable s → 1 ≤ w → w ≤ s.limits.workers →
    (w - 1 < length s.holds) × (length (get_or s.holds (w - 1) []) ≡ s.limits.population)
row_below s w t l h = (omega (arith, t.workers), t.rows (w - 1) (omega arith))

-- who is in a hand isn't held
pub not_held : (s : Lists) (w i : ℕ) → IsTable s → 0 < hand_of s w i → holds_of_all s i ≡ 0
not_held s w i t h = let k = rw (is_hand w (place_of s i) h) at (t.counted i) in omega (arith, k)

pub not_on_desk : (s : Lists) (w i : ℕ) → IsTable s → 0 < hand_of s w i → held_in s.desks i ≡ 0
not_on_desk s w i t h = let k = rw (is_hand w (place_of s i) h) at (t.counted i) in omega (arith, k)

not_common : (s : Lists) (w i : ℕ) → IsTable s → 0 < hand_of s w i → bag s.common i ≡ 0
not_common s w i t h = omega (arith, t.shown i, apart w (place_of s i))

-- the element leaves the hand with count 1, which is the one hold in the worker's row
pub table_claim : (s : Lists) (w i : ℕ) → IsTable s → 1 ≤ w → w ≤ s.limits.workers →
    0 < hand_of s w i → IsTable (after_claim w i s)
table_claim s w i t l h p =
    let k = row_below s w t l h in
    let below : i < length s.places = stands_in_hand s.places w i p in
    let within : i < length (get_or s.holds (w - 1) []) = omega (arith, k.1, t.elements) in
    let heads : i < length s.headers = omega (arith, t.header_places, t.elements) in record {
      pool = t.pool;
      elements = length-set s.places i (Held 1) ∙ t.elements;
      shown = λ j. elim (apart_or_same i j) [
        | inl e ↦ rw (e, get_or-set_same s.places i (Held 1) nowhere below) (not_common s w i t p)
        | inr e ↦ rw (get_or-set_other s.places i j (Held 1) nowhere e) (t.shown j)
      ];
      somewhere = λ j b. elim (apart_or_same i j) [
        | inl e ↦ rw (e, get_or-set_same s.places i (Held 1) nowhere below) (omega arith)
        | inr e ↦ rw (get_or-set_other s.places i j (Held 1) nowhere e) (t.somewhere j b)
      ];
      workers = length-set s.holds (w - 1) (set (get_or s.holds (w - 1) []) i 1) ∙ t.workers;
      rows = λ v b. length-row s.holds (w - 1) i 1 v s.limits.population k.0 k.1 (t.rows v b);
      counted = λ j. elim (apart_or_same i j) [
        | inl e ↦ rw (e, get_or-set_same s.places i (Held 1) nowhere below)
            (omega (
              arith,
              sum-there s.holds (w - 1) i 1 k.0 within,
              not_held s w i t p,
              not_on_desk s w i t p,
              hold_le s.holds (w - 1) i k.0,
            ))
        | inr e ↦
            rw (get_or-set_other s.places i j (Held 1) nowhere e)
            (omega (arith, t.counted j, sum-elsewhere s.holds (w - 1) i 1 j k.0 e))
      ];
      limited = λ j. elim (apart_or_same i j) [
        | inl e ↦ rw (e, get_or-set_same s.places i (Held 1) nowhere below) t.pool.refs_low
        | inr e ↦ rw (get_or-set_other s.places i j (Held 1) nowhere e) (t.limited j)
      ];
      header_places = length-set s.headers i (Some w) ∙ t.header_places;
      owned = owned_by_all s.limits.workers (set s.headers i (Some w)) (λ j. elim (apart_or_same i j) [
        | inl e ↦ rw (e, get_or-set_same s.headers i (Some w) None heads) (l, h)
        | inr e ↦ rw (get_or-set_other s.headers i j (Some w) None e) (owned_at s t j)
      ]);
      headers_held = λ v j b q. elim (apart_or_same i j) [
        | inl e ↦
            let f = rw (e, get_or-set_same s.headers i (Some w) None heads) at q in
            rw (e, sym (owner_is v w f)) (let g = row-there s.holds (w - 1) i 1 k.0 within in omega (arith, g))
        | inr e ↦
            let f = rw (get_or-set_other s.headers i j (Some w) None e) at q in
            omega (arith, t.headers_held v j b f, hold_elsewhere s.holds w i 1 v j k.0 b e)
      ];
      headers_apart = λ j. elim (apart_or_same i j) [
        | inl e ↦
            rw (e, get_or-set_same s.headers i (Some w) None heads)
            (omega (arith, own_in-held s.desks i, not_on_desk s w i t p))
        | inr e ↦ rw (get_or-set_other s.headers i j (Some w) None e) (t.headers_apart j)
      ];
      desks = t.desks;
      changed = t.changed;
    }

-- an element of a list is counted
bag-at : (xs : List ℕ) (k d : ℕ) → k < length xs → 0 < bag xs (get_or xs k d)
bag-at [] k d h = absurd (omega arith)
bag-at (x ∷ xs) zero d h = bag-head x xs
bag-at (x ∷ xs) (suc k) d h = omega (arith, bag-cons x xs (get_or xs k d), bag-at xs k d (omega arith))

-- what is in a list of which no element is n or more
pub all_below : (n : ℕ) (xs : List ℕ) → ((i : ℕ) → n ≤ i → bag xs i ≡ 0) → All (λ x. x < n) xs
all_below n xs h k d l =
    elim (cases_lt (get_or xs k d) n)
    [ inl b ↦ b | inr b ↦ absurd (omega (arith, h (get_or xs k d) b, bag-at xs k d l)) ]

-- what is taken is below the population
pub taken_below : (s : Lists) (n : ℕ) → IsTable s → All (λ x. x < s.limits.population) (take n s.common)
taken_below s n t =
    all_below s.limits.population (take n s.common)
    (λ i l. omega (arith, bag-take-drop n s.common i, t.shown i, past 0 s.places i (omega (arith, t.elements))))

-- what is put back comes from a hand, so it is below the population
pub put_below : (s : Lists) (w : ℕ) (xs : List ℕ) → IsTable s →
    ((i : ℕ) → bag xs i ≤ hand_of s w i) → All (λ x. x < s.limits.population) xs
put_below s w xs t h = all_below s.limits.population xs (λ i l. omega (arith, h i, hand_below_lem s w i t l))
