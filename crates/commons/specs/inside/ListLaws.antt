-- The laws of a hand that the lists meet.
use Rattle.std.proofs.Common.{◌≡◌, ℕ, ◌<◌, ◌≤◌, ◌-◌, ◌==◌, inl, inr, Bool, true, false, cond, List, [], length, get_or, Option, Some, None, arith, refl, slice_index_or}
use Rattle.std.proofs.lemmas.Bool.{cases_lt}
use Rattle.std.proofs.lemmas.List.Sums.{sum_by-set}
use Rattle.std.proofs.lemmas.List.{get_or_past}
use Rattle.commons.specs.declared.place.Place.{Place}
use Rattle.commons.specs.declared.place.Place.TheVariants.{Common, Hand, Held}
use Rattle.commons.specs.Lists.{Lists, IsTable, hand_of, holds_of, header_of, place_of, in_hand, held_count, is_owner, nowhere}

flag_le : (b : Bool) → ◌≤◌ (cond b 1 0) 1
flag_le true = omega arith
flag_le false = omega arith

pub in_hand-le : (w : ℕ) (p : Place) → in_hand w p ≤ 1
in_hand-le w Common = omega arith
in_hand-le w (Hand v) = flag_le (v == w)
in_hand-le w (Held n) = omega arith

-- an element is in a hand at most once
pub hand_once_lem : (s : Lists) (w i : ℕ) → hand_of s w i ≤ 1
hand_once_lem s w i = in_hand-le w (place_of s i)

-- and none at or above the population is
pub hand_below_lem : (s : Lists) (w i : ℕ) → IsTable s → s.limits.population ≤ i → hand_of s w i ≡ 0
hand_below_lem s w i t h = rw (get_or_past s.places i nowhere (omega (arith, t.elements))) refl

-- and none at or above it is held
pub holds_below_lem : (s : Lists) (w i : ℕ) → IsTable s → s.limits.population ≤ i → holds_of s w i ≡ 0
holds_below_lem s w i t h =
    elim (cases_lt (w - 1) (length s.holds)) [
      | inl l ↦
          get_or_past (get_or s.holds (w - 1) []) i 0
          (omega (arith, t.rows (w - 1) (omega (arith, t.workers))))
      | inr l ↦ rw (get_or_past s.holds (w - 1) [] l) refl
    ]

-- what a worker holds has the place of a held element, and is in no hand
hold_counts : (s : Lists) (w i : ℕ) → IsTable s → 0 < holds_of s w i → 0 < held_count (place_of s i)
hold_counts s w i t h =
    elim (cases_lt (w - 1) (length s.holds)) [
      | inl l ↦
          omega (
            arith,
            t.counted i,
            sum_by-set (λ (row : List ℕ). get_or row i 0) s.holds (w - 1) [] [] l,
          )
      | inr l ↦ absurd (let k = rw (get_or_past s.holds (w - 1) [] l) at h in omega (arith, k))
    ]

not_in_hand : (w : ℕ) (p : Place) → 0 < held_count p → in_hand w p ≡ 0
not_in_hand w Common h = refl
not_in_hand w (Hand v) h = absurd (omega arith)
not_in_hand w (Held n) h = refl

pub apart_lem : (s : Lists) (w i : ℕ) → IsTable s → 0 < holds_of s w i → hand_of s w i ≡ 0
apart_lem s w i t h = not_in_hand w (place_of s i) (hold_counts s w i t h)

owner_le : (w : ℕ) (owner : Option ℕ) → is_owner w owner ≤ 1
owner_le w None = omega arith
owner_le w (Some v) = flag_le (v == w)

-- an element is a worker's header at most once, and only where the worker holds it
pub header_once_lem : (s : Lists) (w i : ℕ) → header_of s w i ≤ 1
header_once_lem s w i = owner_le w (slice_index_or s.headers i None)

pub header_held_lem : (s : Lists) (w i : ℕ) → IsTable s → 1 ≤ w → 0 < header_of s w i → 0 < holds_of s w i
header_held_lem s w i t l h = t.headers_held w i l h
