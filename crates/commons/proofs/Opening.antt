-- A new pool's lists show a table.
use Rattle.std.proofs.Common.{◌≡◌, ℕ, zero, suc, ◌+◌, ◌<◌, ◌≤◌, inl, inr, List, [], length, get_or, replicate, Option, None, refl, ◌∙◌, arith}
use Rattle.std.specs.Prelude.{sum_by}
use Rattle.std.specs.List.{range_with_len}
use Rattle.std.proofs.lemmas.List.{get_or_past, get_or-replicate, length-replicate}
use Rattle.std.proofs.lemmas.List.Folds.{sum_by-replicate}
use Rattle.std.proofs.lemmas.Bool.{cases_lt}
use Rattle.commons.specs.declared.limits.Limits.{Limits}
use Rattle.commons.specs.declared.place.Place.TheVariants.{Common}
use Rattle.commons.specs.Bag.{bag}
use Rattle.commons.specs.Bounds.{IsPool}
use Rattle.commons.specs.Lists.{IsTable, opening, nowhere, in_hand, is_owner, owners}
use Rattle.commons.proofs.Holds.{IsWorker, owned_by_all}
use Rattle.commons.specs.declared.packet.Seg.{Seg}
use Rattle.commons.proofs.PacketBags.{held_in-empty, own_in-empty}
use Rattle.commons.proofs.Bags.{bag-nil, bag-cons, one-same}
use Rattle.commons.proofs.Places.{apart_or_same, one-apart}

-- the numbers from a on stand there once each, and no others
bag-range_low : (a n i : ℕ) → i < a → bag (range_with_len a n) i ≡ 0
bag-range_low a zero i l = bag-nil i
bag-range_low a (suc n) i l =
    omega (
      arith,
      bag-cons a (range_with_len (a + 1) n) i,
      one-apart a i (omega arith),
      bag-range_low (a + 1) n i (omega arith),
    )

-- numbers from a on, n of them, don't reach a + n
pub bag-range_high : (a n i : ℕ) → a + n ≤ i → bag (range_with_len a n) i ≡ 0
bag-range_high a zero i l = bag-nil i
bag-range_high a (suc n) i l =
    omega (
      arith,
      bag-cons a (range_with_len (a + 1) n) i,
      one-apart a i (omega arith),
      bag-range_high (a + 1) n i (omega arith),
    )

-- each number from a on, n of them, stands there once: it is the first, or among the others
pub bag-range_in : (a n i : ℕ) → a ≤ i → i < a + n → bag (range_with_len a n) i ≡ 1
bag-range_in a zero i l h = absurd (omega arith)
bag-range_in a (suc n) i l h =
    elim (apart_or_same a i) [
      | inl e ↦
          rw e (omega (
            arith,
            bag-cons a (range_with_len (a + 1) n) a,
            one-same a,
            bag-range_low (a + 1) n a (omega arith),
          ))
      | inr e ↦
          omega (
            arith,
            bag-cons a (range_with_len (a + 1) n) i,
            one-apart a i e,
            bag-range_in (a + 1) n i (omega arith) (omega arith),
          )
    ]

-- each element of a list of copies, and the default past it
copies_past : {X : Type 0} (n : ℕ) (x d : X) (i : ℕ) → n ≤ i → get_or (replicate n x) i d ≡ d
copies_past n x d i l = get_or_past (replicate n x) i d (rw length-replicate l)

zeros : (n i : ℕ) → ◌≡◌ {A = ℕ} (get_or (replicate n 0) i 0) 0
zeros n i = elim (cases_lt i n) [ inl l ↦ get_or-replicate n i 0 0 l | inr l ↦ copies_past n 0 0 i l ]

-- among new headers none is a worker's
nobody : (n w i : ℕ) → is_owner w (get_or (replicate n None) i None) ≡ 0
nobody n w i =
    elim (cases_lt i n) [
      | inl l ↦ rw (get_or-replicate {A = Option ℕ} n i None None l) refl
      | inr l ↦ rw (copies_past {X = Option ℕ} n None None i l) refl
    ]

-- among new headers none has an owner, so none has a wrong one
none_owned : (workers n i : ℕ) → IsWorker workers (get_or (replicate n None) i None)
none_owned workers n i =
    elim (cases_lt i n) [
      | inl l ↦ rw (get_or-replicate {A = Option ℕ} n i None None l) tt
      | inr l ↦ rw (copies_past {X = Option ℕ} n None None i l) tt
    ]

-- a new header has no owner to count
no_owner : (n i : ℕ) → owners (get_or (replicate n None) i None) ≡ 0
no_owner n i =
    elim (cases_lt i n) [
      | inl l ↦ rw (get_or-replicate {A = Option ℕ} n i None None l) refl
      | inr l ↦ rw (copies_past {X = Option ℕ} n None None i l) refl
    ]

-- each row of a new pool has a number for each element
length_of_rows : (rows n v : ℕ) → v < rows → length (get_or (replicate {A = List ℕ} rows (replicate n 0)) v []) ≡ n
length_of_rows rows n v b =
    let zero_row : List ℕ = replicate n 0 in
    rw (get_or-replicate {A = List ℕ} rows v zero_row [] b) (length-replicate {A = ℕ} n 0)

-- the workers of a new pool hold nothing, all together
none_held : (rows n i : ℕ) → ◌≡◌ {A = ℕ}
    (sum_by (λ (row : List ℕ). get_or row i 0) (replicate {A = List ℕ} rows (replicate n 0))) 0
none_held rows n i =
    let zero_row : List ℕ = replicate n 0 in
    sum_by-replicate (λ (row : List ℕ). get_or row i 0) rows zero_row ∙ rw (zeros n i) (omega arith)

-- a new pool: every element is in the common list once, no worker and no desk has anything
pub table_opening : (l : Limits) → IsPool l → IsTable (opening l)
table_opening l p = record {
  pool = p;
  elements = length-replicate l.population Common;
  shown = λ i. elim (cases_lt i l.population) [
    | inl b ↦
        rw (get_or-replicate l.population i Common nowhere b)
        (bag-range_in 0 l.population i (omega arith) (omega arith))
    | inr b ↦ rw (copies_past l.population Common nowhere i b) (bag-range_high 0 l.population i (omega arith))
  ];
  somewhere = λ i b. rw (get_or-replicate l.population i Common nowhere b) (omega arith);
  workers = length-replicate {A = List ℕ} l.workers (replicate l.population 0);
  rows = λ v b. length_of_rows l.workers l.population v b;
  counted = λ i. elim (cases_lt i l.population) [
    | inl b ↦
        rw (get_or-replicate l.population i Common nowhere b)
        (omega (arith, none_held l.workers l.population i, held_in-empty l.desks i))
    | inr b ↦
        rw (copies_past l.population Common nowhere i b)
        (omega (arith, none_held l.workers l.population i, held_in-empty l.desks i))
  ];
  limited = λ i. elim (cases_lt i l.population) [
    | inl b ↦ rw (get_or-replicate l.population i Common nowhere b) (omega arith)
    | inr b ↦ rw (copies_past l.population Common nowhere i b) (omega arith)
  ];
  header_places = length-replicate {A = Option ℕ} l.population None;
  owned = owned_by_all l.workers (replicate l.population None) (none_owned l.workers l.population);
  headers_held = λ w i b h. absurd (omega (arith, nobody l.population w i));
  headers_apart = λ i. omega (arith, no_owner l.population i, own_in-empty l.desks i);
  desks = length-replicate {A = Option (List Seg)} l.desks None;
  changed = p.start;
}

-- nothing is in a hand then, and nothing is held
pub nothing_in_hand : (n w i : ℕ) → in_hand w (get_or (replicate n Common) i nowhere) ≡ 0
nothing_in_hand n w i = elim (cases_lt i n) [
  | inl b ↦ rw (get_or-replicate n i Common nowhere b) refl
  | inr b ↦ rw (copies_past n Common nowhere i b) refl
]

-- a worker of a new pool holds no element, nor does one that the pool doesn't have
pub nothing_held : (rows n k i : ℕ) →
    ◌≡◌ {A = ℕ} (get_or (get_or (replicate {A = List ℕ} rows (replicate n 0)) k []) i 0) 0
nothing_held rows n k i =
    let row : List ℕ = replicate n 0 in
    elim (cases_lt k rows) [
      | inl b ↦ rw (get_or-replicate {A = List ℕ} rows k row [] b) (zeros n i)
      | inr b ↦ rw (copies_past {X = List ℕ} rows row [] k b) refl
    ]
