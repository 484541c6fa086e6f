-- What one hold more does to a table.
use Rattle.std.proofs.Common.{◌≡◌, ℕ, ◌+◌, ◌-◌, ◌<◌, ◌≤◌, inl, inr, [], length, get_or, set, length-set, get_or-set_same, get_or-set_other, refl, sym, ap, ◌∙◌, arith}
use Rattle.commons.specs.declared.place.Place.TheVariants.{Held}
use Rattle.commons.specs.Bag.{one}
use Rattle.commons.specs.Lists.{Lists, IsTable, KeepsOthers, nowhere, place_of, in_common, in_hand, held_count, hand_of, holds_of, after_raise}
use Rattle.commons.proofs.Bags.{one-same}
use Rattle.commons.proofs.Places.{apart_or_same, one-apart, counted_in, held_only}
use Rattle.commons.proofs.Holds.{hold_le, sum-elsewhere, sum-there, length-row, row-there, row-elsewhere}
use Rattle.commons.proofs.Single.{held_place}
use Rattle.commons.proofs.Tables.{row_below, hold_of_other}

-- a worker holds an element no more often than all do
pub hold_le_count : (s : Lists) (w i : ℕ) → IsTable s → 1 ≤ w → w ≤ s.limits.workers →
    holds_of s w i ≤ held_count (place_of s i)
hold_le_count s w i t l b = omega (arith, t.counted i, hold_le s.holds (w - 1) i (row_below s w t l b).0)

module _ (s : Lists) (w i : ℕ) (t : IsTable s) (l : 1 ≤ w) (b : w ≤ s.limits.workers) (p : 0 < holds_of s w i) where
  row_ok : (w - 1 < length s.holds) × (length (get_or s.holds (w - 1) []) ≡ s.limits.population)
  row_ok = row_below s w t l b

  in_row : i < length (get_or s.holds (w - 1) [])
  in_row = counted_in (get_or s.holds (w - 1) []) i p

  in_places : i < length s.places
  in_places = omega (arith, in_row, row_ok.1, t.elements)

  -- the element is held before and afterwards
  held : place_of s i ≡ Held (held_count (place_of s i))
  held = held_only (place_of s i) (held_place s w i t p)

  -- nothing comes into a hand, and nothing leaves it
  pub hand_raise : (v j : ℕ) → hand_of (after_raise w i s) v j ≡ hand_of s v j
  hand_raise v j = elim (apart_or_same i j) [
    | inl e ↦
        rw (e, get_or-set_same s.places i (Held (held_count (place_of s i) + 1)) nowhere in_places)
        (ap (in_hand v) (sym held))
    | inr e ↦ rw (get_or-set_other s.places i j (Held (held_count (place_of s i) + 1)) nowhere e) refl
  ]

  -- no hand changes, and holds change in this worker's row alone
  pub others_raise : KeepsOthers w s (after_raise w i s)
  others_raise = record {
    hands = λ v j e. hand_raise v j;
    holds = λ v j k e. hold_of_other s.holds w i (holds_of s w i + 1) v j l k e;
    headers = λ v j e. refl;
  }

  -- the worker holds this element once more, and each other one as often as before
  pub holds_raise : (j : ℕ) → holds_of (after_raise w i s) w j ≡ holds_of s w j + one i j
  holds_raise j = elim (apart_or_same i j) [
    | inl e ↦ rw (e, row-there s.holds (w - 1) i (holds_of s w i + 1) row_ok.0 in_row, one-same i) refl
    | inr e ↦ rw (row-elsewhere s.holds (w - 1) i (holds_of s w i + 1) j row_ok.0 e, one-apart i j e) (omega arith)
  ]

  -- no worker holds anything less often
  no_fewer : (v j : ℕ) → 1 ≤ v → holds_of s v j ≤ holds_of (after_raise w i s) v j
  no_fewer v j k = elim (apart_or_same w v) [
    | inl e ↦ rw e (omega (arith, holds_raise j))
    | inr e ↦ omega (arith, hold_of_other s.holds w i (holds_of s w i + 1) v j l k e)
  ]

  -- below the limit, one hold more leaves a table: count and row grow by one together
  pub table_raise : held_count (place_of s i) < s.limits.ref_limit → IsTable (after_raise w i s)
  table_raise below = record {
    pool = t.pool;
    elements = length-set s.places i (Held (held_count (place_of s i) + 1)) ∙ t.elements;
    shown = λ j. elim (apart_or_same i j) [
      | inl e ↦
          rw
          (e, get_or-set_same s.places i (Held (held_count (place_of s i) + 1)) nowhere in_places)
          (t.shown i ∙ ap in_common held)
      | inr e ↦ rw (get_or-set_other s.places i j (Held (held_count (place_of s i) + 1)) nowhere e) (t.shown j)
    ];
    somewhere = λ j m. elim (apart_or_same i j) [
      | inl e ↦
          rw
          (e, get_or-set_same s.places i (Held (held_count (place_of s i) + 1)) nowhere in_places)
          (omega arith)
      | inr e ↦ rw (get_or-set_other s.places i j (Held (held_count (place_of s i) + 1)) nowhere e) (t.somewhere j m)
    ];
    workers = length-set s.holds (w - 1) (set (get_or s.holds (w - 1) []) i (holds_of s w i + 1)) ∙ t.workers;
    rows =
        λ v m.
        length-row s.holds (w - 1) i (holds_of s w i + 1) v s.limits.population row_ok.0 row_ok.1
        (t.rows v m);
    counted = λ j. elim (apart_or_same i j) [
      | inl e ↦ rw (e, get_or-set_same s.places i (Held (held_count (place_of s i) + 1)) nowhere in_places)
          (omega (arith, sum-there s.holds (w - 1) i (holds_of s w i + 1) row_ok.0 in_row, t.counted i))
      | inr e ↦
          rw (get_or-set_other s.places i j (Held (held_count (place_of s i) + 1)) nowhere e)
          (omega (
            arith,
            t.counted j,
            sum-elsewhere s.holds (w - 1) i (holds_of s w i + 1) j row_ok.0 e,
          ))
    ];
    limited = λ j. elim (apart_or_same i j) [
      | inl e ↦
          rw
          (e, get_or-set_same s.places i (Held (held_count (place_of s i) + 1)) nowhere in_places)
          (omega (arith, below))
      | inr e ↦ rw (get_or-set_other s.places i j (Held (held_count (place_of s i) + 1)) nowhere e) (t.limited j)
    ];
    header_places = t.header_places;
    headers_apart = t.headers_apart;
    desks = t.desks;
    owned = t.owned;
    headers_held = λ v j m o. omega (arith, t.headers_held v j m o, no_fewer v j m);
    changed = t.changed;
  }
