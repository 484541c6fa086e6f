-- What a claim and the end of a hold do to a table.
use Rattle.std.proofs.Common.{◌≡◌, ◌≢◌, ℕ, ◌+◌, ◌-◌, ◌<◌, ◌≤◌, inl, inr, zero, suc, true, cond, nat_lt, [], length, get_or, set, length-set, get_or-set_same, get_or-set_other, Option, Some, None, refl, sym, ◌∙◌, arith}
use Rattle.std.proofs.lemmas.List.{get_or_past}
use Rattle.std.proofs.lemmas.Bool.{cases_lt}
use Rattle.std.proofs.lemmas.Bool.Decides.{nat_tests}
use Rattle.commons.specs.declared.place.Place.{Place}
use Rattle.commons.specs.declared.place.Place.TheVariants.{Held}
use Rattle.commons.specs.declared.refusal.Lowered.{Lowered}
use Rattle.commons.specs.declared.refusal.Lowered.TheVariants.{Last, Still}
use Rattle.commons.specs.Bag.{one}
use Rattle.commons.specs.Calls.{back}
use Rattle.commons.specs.Lists.{Lists, IsTable, KeepsOthers, WasLowered, nowhere, place_of, in_common, in_hand, held_count, weight, hand_of, holds_of, holds_of_all, header_of, is_owner, owner_left, after_claim, after_lower}
use Rattle.commons.proofs.Bags.{one-same}
use Rattle.commons.proofs.Places.{zero_or_more, apart_or_same, one-apart, in_hand-same, in_hand-other, is_hand, weight-hand, stands_in_hand, counted_in, held_only}
use Rattle.commons.proofs.Holds.{hold_le, sum-elsewhere, sum-there, length-row, row-there, row-elsewhere, owner_left-other, owner_left-le, disowned-same, owner-same, owner-other, owner_low, owner_left-worker, owned_at, owned_by_all}
use Rattle.commons.proofs.Tables.{row_below, not_held, hold_elsewhere, hold_of_other}

-- an element that a worker holds is held
hold_in_all : (s : Lists) (w i : ℕ) → IsTable s → 0 < holds_of s w i → 0 < holds_of_all s i
hold_in_all s w i t h =
    elim (cases_lt (w - 1) (length s.holds)) [
      | inl l ↦ omega (arith, hold_le s.holds (w - 1) i l)
      | inr l ↦ absurd (let k = rw (get_or_past s.holds (w - 1) [] l) at h in omega (arith, k))
    ]

-- who is in a hand is nobody's header
no_header : (s : Lists) (w v i : ℕ) → IsTable s → 0 < hand_of s w i → header_of s v i ≡ 0
no_header s w v i t h =
    elim (zero_or_more (header_of s v i)) [
      | inl z ↦ z
      | inr p ↦
          absurd (omega (
            arith,
            hold_in_all s v i t (t.headers_held v i
                (owner_low s.limits.workers v (get_or s.headers i None) (owned_at s t i) p) p),
            not_held s w i t h,
          ))
    ]

-- the element was in this worker's hand alone and nobody's header, so others lose and get nothing
pub others_claim : (s : Lists) (w i : ℕ) → IsTable s → 1 ≤ w → w ≤ s.limits.workers →
    0 < hand_of s w i → KeepsOthers w s (after_claim w i s)
others_claim s w i t l b p =
    let below : i < length s.places = stands_in_hand s.places w i p in
    let heads : i < length s.headers = omega (arith, t.header_places, t.elements) in record {
      hands = λ v j e. elim (apart_or_same i j) [
        | inl f ↦
            rw (f, get_or-set_same s.places i (Held 1) nowhere below, is_hand w (place_of s i) p)
            (sym (in_hand-other v w e))
        | inr f ↦ rw (get_or-set_other s.places i j (Held 1) nowhere f) refl
      ];
      holds = λ v j k e. hold_of_other s.holds w i 1 v j l k e;
      headers = λ v j e. elim (apart_or_same i j) [
        | inl f ↦
            rw (f, get_or-set_same s.headers i (Some w) None heads)
            (owner-other v w e ∙ sym (no_header s w v i t p))
        | inr f ↦ rw (get_or-set_other s.headers i j (Some w) None f) refl
      ];
    }

-- the claimed element leaves the hand; every other one of the hand stays
pub hand_claim : (s : Lists) (w i : ℕ) → 0 < hand_of s w i → (j : ℕ) →
    hand_of s w j ≡ hand_of (after_claim w i s) w j + one i j
hand_claim s w i p j =
    let below : i < length s.places = stands_in_hand s.places w i p in
    elim (apart_or_same i j) [
      | inl e ↦
          rw (
            e,
            get_or-set_same s.places i (Held 1) nowhere below,
            is_hand w (place_of s i) p,
            in_hand-same w,
            one-same i,
          ) (omega arith)
      | inr e ↦ rw (get_or-set_other s.places i j (Held 1) nowhere e, one-apart i j e) (omega arith)
    ]

-- an element of a hand has no hold, so after the claim the worker has exactly one
pub holds_claim : (s : Lists) (w i : ℕ) → IsTable s → 1 ≤ w → w ≤ s.limits.workers →
    0 < hand_of s w i → (j : ℕ) → holds_of (after_claim w i s) w j ≡ holds_of s w j + one i j
holds_claim s w i t l b p j =
    let k = row_below s w t l b in
    let within : i < length (get_or s.holds (w - 1) []) =
    omega (arith, k.1, t.elements, stands_in_hand s.places w i p) in
    elim (apart_or_same i j) [
      | inl e ↦
          rw (e, row-there s.holds (w - 1) i 1 k.0 within, one-same i)
          (omega (arith, not_held s w i t p, hold_le s.holds (w - 1) i k.0))
      | inr e ↦ rw (row-elsewhere s.holds (w - 1) i 1 j k.0 e, one-apart i j e) (omega arith)
    ]

-- an element of a hand is nobody's header, so after the claim it is this worker's, once
pub headers_claim : (s : Lists) (w i : ℕ) → IsTable s → 1 ≤ w → 0 < hand_of s w i → (j : ℕ) →
    header_of (after_claim w i s) w j ≡ header_of s w j + one i j
headers_claim s w i t l p j =
    let heads : i < length s.headers = omega (arith, t.header_places, t.elements, stands_in_hand s.places w i p) in
    elim (apart_or_same i j) [
      | inl e ↦
          rw (e, get_or-set_same s.headers i (Some w) None heads, no_header s w w i t p, one-same i)
          (owner-same w)
      | inr e ↦ rw (get_or-set_other s.headers i j (Some w) None e, one-apart i j e) (omega arith)
    ]

-- an element that a worker holds is below the population
pub held_below : (s : Lists) (w i : ℕ) → IsTable s → 1 ≤ w → w ≤ s.limits.workers →
    0 < holds_of s w i → i < s.limits.population
held_below s w i t l b p = omega (arith, counted_in (get_or s.holds (w - 1) []) i p, (row_below s w t l b).1)

-- an element that a worker holds has the place of a held one, with a count of at least 1
pub held_place : (s : Lists) (w i : ℕ) → IsTable s → 0 < holds_of s w i → 0 < held_count (place_of s i)
held_place s w i t p = omega (arith, t.counted i, hold_in_all s w i t p)

-- in a table, a worker of the pool holds this element, which thus has a place and a header's place
pub record IsHeldBy (s : Lists) (w i : ℕ) : Type 0 where
  pub table : IsTable s
  pub low : 1 ≤ w
  pub high : w ≤ s.limits.workers
  pub held : 0 < holds_of s w i
  pub place : i < length s.places
  pub header : i < length s.headers

-- what is seen of the lists as held is held on the kept ones
pub is_held_by : (s seen : Lists) (w i : ℕ) → s ≡ seen → IsTable s → 1 ≤ w → w ≤ seen.limits.workers →
    0 < holds_of seen w i → IsHeldBy s w i
is_held_by s seen w i same table low high held =
    let high' = rw (sym same) at high in
    let held' = rw (sym same) at held in
    let within = held_below s w i table low high' held' in record {
      table = table;
      low = low;
      high = high';
      held = held';
      place = omega (arith, within, table.elements);
      header = omega (arith, within, table.header_places);
    }

-- the number of an element's holds once one has ended
lowered_count : (w : ℕ) (p q : Place) (answer : Lowered) → WasLowered w p q answer → held_count q + 1 ≡ held_count p
lowered_count w p q Last h = rw (h.0, h.1) refl
lowered_count w p q Still h = rw h.1 (omega (arith, h.0))

-- neither a held element nor one whose hold has just ended is in the common list
lowered_common : (w : ℕ) (p q : Place) (answer : Lowered) → WasLowered w p q answer →
    (in_common p ≡ 0) × (in_common q ≡ 0)
lowered_common w p q Last h = (rw h.0 refl, rw h.1 refl)
lowered_common w p q Still h = (rw (held_only p (omega (arith, h.0))) refl, rw h.1 refl)

-- an element whose hold has ended is in a worker's hand or still held: a place it can have
lowered_weight : (workers w : ℕ) (p q : Place) (answer : Lowered) → 1 ≤ w → w ≤ workers →
    WasLowered w p q answer → 0 < weight workers q
lowered_weight workers w p q Last l b h = rw h.1 (weight-hand workers w l b)
lowered_weight workers w p q Still l b h = rw h.1 (omega (arith, h.0))

-- the end of a hold brings an element to no other worker's hand
lowered_hand : (w v : ℕ) (p q : Place) (answer : Lowered) → v ≢ w → WasLowered w p q answer → in_hand v q ≡ in_hand v p
lowered_hand w v p q Last e h = rw (h.0, h.1) (in_hand-other v w e)
lowered_hand w v p q Still e h = rw (h.1, held_only p (omega (arith, h.0))) refl

-- the element comes to the worker's hand just where the hold that ended was the last
lowered_back : (w i : ℕ) (p q : Place) (answer : Lowered) → WasLowered w p q answer →
    in_hand w q ≡ in_hand w p + back answer i i
lowered_back w i p q Last h = rw (h.0, h.1, in_hand-same w, one-same i) refl
lowered_back w i p q Still h = rw (h.1, held_only p (omega (arith, h.0))) refl

-- no other element comes back than the one whose hold ended
back-apart : (answer : Lowered) (i j : ℕ) → j ≢ i → back answer i j ≡ 0
back-apart Last i j e = one-apart i j e
back-apart Still i j e = refl

-- the header of who holds it no more is gone
owner_gone : (w left : ℕ) (owner : Option ℕ) → 0 < is_owner w (owner_left w left owner) → 0 < left
owner_gone w zero owner h = absurd (omega (arith, disowned-same w owner))
owner_gone w (suc left) owner h = omega arith

-- a header stays its worker's just as long as that worker has a hold left
pub owner_kept : (w left : ℕ) (owner : Option ℕ) →
    is_owner w (owner_left w left owner) ≡ cond (nat_lt 0 left) (is_owner w owner) 0
owner_kept w zero owner = disowned-same w owner
owner_kept w (suc left) owner = let e : nat_lt 0 (suc left) ≡ true = grind (arith, nat_tests) in rw e refl

header_kept : (held header : ℕ) → (0 < header → 0 < held) → header ≡ cond (nat_lt 0 held) header 0
header_kept held header h = grind (arith, nat_tests)

module _ (s : Lists) (w i : ℕ) (q : Place) (answer : Lowered) (t : IsTable s) (l : 1 ≤ w)
    (b : w ≤ s.limits.workers) (p : 0 < holds_of s w i) (d : WasLowered w (place_of s i) q answer)
  where
    row_ok : (w - 1 < length s.holds) × (length (get_or s.holds (w - 1) []) ≡ s.limits.population)
    row_ok = row_below s w t l b

    in_row : i < length (get_or s.holds (w - 1) [])
    in_row = counted_in (get_or s.holds (w - 1) []) i p

    in_places : i < length s.places
    in_places = omega (arith, in_row, row_ok.1, t.elements)

    in_headers : i < length s.headers
    in_headers = omega (arith, in_row, row_ok.1, t.header_places)

    left : ℕ
    left = holds_of s w i - 1

    -- every other worker has what it had: the element comes to this worker's hand at most
    pub others_lower : KeepsOthers w s (after_lower w i q s)
    others_lower = record {
      hands = λ v j e. elim (apart_or_same i j) [
        | inl f ↦ rw (f, get_or-set_same s.places i q nowhere in_places) (lowered_hand w v (place_of s i) q answer e d)
        | inr f ↦ rw (get_or-set_other s.places i j q nowhere f) refl
      ];
      holds = λ v j k e. hold_of_other s.holds w i (holds_of s w i - 1) v j l k e;
      headers = λ v j e. elim (apart_or_same i j) [
        | inl f ↦
            rw (
              f,
              get_or-set_same s.headers i
                  (owner_left w (holds_of s w i - 1) (get_or s.headers i None)) None in_headers,
            )
            (owner_left-other v w (holds_of s w i - 1) (get_or s.headers i None) e)
        | inr f ↦
            rw (get_or-set_other s.headers i j
            (owner_left w (holds_of s w i - 1) (get_or s.headers i None)) None f) refl
      ];
    }

    -- the end of one hold leaves a table: count and row are one less, and the last goes to the hand
    pub table_lower : IsTable (after_lower w i q s)
    table_lower = record {
      pool = t.pool;
      elements = length-set s.places i q ∙ t.elements;
      shown = λ j. elim (apart_or_same i j) [
        | inl e ↦ let k =
            lowered_common w (place_of s i) q answer d in rw
            (e, get_or-set_same s.places i q nowhere in_places) (omega (arith, t.shown i, k.0, k.1))
        | inr e ↦ rw (get_or-set_other s.places i j q nowhere e) (t.shown j)
      ];
      somewhere = λ j m. elim (apart_or_same i j) [
        | inl e ↦
            rw (e, get_or-set_same s.places i q nowhere in_places)
            (lowered_weight s.limits.workers w (place_of s i) q answer l b d)
        | inr e ↦ rw (get_or-set_other s.places i j q nowhere e) (t.somewhere j m)
      ];
      workers = length-set s.holds (w - 1) (set (get_or s.holds (w - 1) []) i (holds_of s w i - 1)) ∙ t.workers;
      rows =
          λ v m.
          length-row s.holds (w - 1) i (holds_of s w i - 1) v s.limits.population row_ok.0 row_ok.1
          (t.rows v m);
      counted = λ j. elim (apart_or_same i j) [
        | inl e ↦ rw (e, get_or-set_same s.places i q nowhere in_places)
            (omega (
              arith,
              sum-there s.holds (w - 1) i (holds_of s w i - 1) row_ok.0 in_row,
              t.counted i,
              lowered_count w (place_of s i) q answer d,
              p,
            ))
        | inr e ↦
            rw (get_or-set_other s.places i j q nowhere e) (omega (
              arith,
              t.counted j,
              sum-elsewhere s.holds (w - 1) i (holds_of s w i - 1) j row_ok.0 e,
            ))
      ];
      limited = λ j. elim (apart_or_same i j) [
        | inl e ↦
            rw (e, get_or-set_same s.places i q nowhere in_places)
            (omega (arith, t.limited i, lowered_count w (place_of s i) q answer d))
        | inr e ↦ rw (get_or-set_other s.places i j q nowhere e) (t.limited j)
      ];
      header_places =
          length-set s.headers i (owner_left w (holds_of s w i - 1) (get_or s.headers i None))
          ∙ t.header_places;
      owned =
          owned_by_all s.limits.workers
          (set s.headers i (owner_left w (holds_of s w i - 1) (get_or s.headers i None))) (λ j. elim
          (apart_or_same i j) [
            | inl e ↦
                rw (
                  e,
                  get_or-set_same s.headers i
                      (owner_left w (holds_of s w i - 1) (get_or s.headers i None)) None in_headers,
                )
                (owner_left-worker s.limits.workers w (holds_of s w i - 1) (get_or s.headers i None) (owned_at s t i))
            | inr e ↦
                rw (get_or-set_other s.headers i j
                (owner_left w (holds_of s w i - 1) (get_or s.headers i None)) None e) (owned_at s t j)
          ]);
      headers_held = λ v j m o. elim (apart_or_same i j) [
        | inl e ↦
            let f =
            rw (
              e,
              get_or-set_same s.headers i
                  (owner_left w (holds_of s w i - 1) (get_or s.headers i None)) None in_headers,
            )
            at o in
            elim (apart_or_same w v) [
              | inl g ↦
                  let f' = rw g at f in
                  rw (e, g, row-there s.holds (w - 1) i (holds_of s w i - 1) row_ok.0 in_row)
                  (owner_gone w (holds_of s w i - 1) (get_or s.headers i None) f')
              | inr g ↦
                  let f' = rw (owner_left-other v w (holds_of s w i - 1) (get_or s.headers i None) g) at f in
                  rw e (rw (hold_of_other s.holds w i (holds_of s w i - 1) v i l m g) (t.headers_held v i m f'))
            ]
        | inr e ↦
            let f =
            rw (get_or-set_other s.headers i j
            (owner_left w (holds_of s w i - 1) (get_or s.headers i None)) None e) at o in
            omega (arith, t.headers_held v j m f, hold_elsewhere s.holds w i (holds_of s w i - 1) v j row_ok.0 m e)
      ];
      headers_apart = λ j. elim (apart_or_same i j) [
        | inl e ↦
            rw (
              e,
              get_or-set_same s.headers i
                  (owner_left w (holds_of s w i - 1) (get_or s.headers i None)) None in_headers,
            )
            (omega (arith, owner_left-le w (holds_of s w i - 1) (get_or s.headers i None), t.headers_apart i))
        | inr e ↦
            rw (get_or-set_other s.headers i j
            (owner_left w (holds_of s w i - 1) (get_or s.headers i None)) None e)
            (t.headers_apart j)
      ];
      desks = t.desks;
      changed = t.changed;
    }

    -- the element comes to the hand exactly where its last hold ended
    pub hand_lower : (j : ℕ) → hand_of (after_lower w i q s) w j ≡ hand_of s w j + back answer i j
    hand_lower j = elim (apart_or_same i j) [
      | inl e ↦ rw (e, get_or-set_same s.places i q nowhere in_places) (lowered_back w i (place_of s i) q answer d)
      | inr e ↦ rw (get_or-set_other s.places i j q nowhere e, back-apart answer i j e) (omega arith)
    ]

    -- the worker holds this element once less, and each other one as often as before
    pub holds_lower : (j : ℕ) → holds_of s w j ≡ holds_of (after_lower w i q s) w j + one i j
    holds_lower j = elim (apart_or_same i j) [
      | inl e ↦ rw (e, row-there s.holds (w - 1) i (holds_of s w i - 1) row_ok.0 in_row, one-same i) (omega (arith, p))
      | inr e ↦ rw (row-elsewhere s.holds (w - 1) i (holds_of s w i - 1) j row_ok.0 e, one-apart i j e) (omega arith)
    ]

    -- a header stays the worker's as long as it holds the element
    pub headers_lower : (j : ℕ) → header_of (after_lower w i q s) w j
        ≡ cond (nat_lt 0 (holds_of (after_lower w i q s) w j)) (header_of s w j) 0
    headers_lower j = elim (apart_or_same i j) [
      | inl e ↦
          rw (
            e,
            row-there s.holds (w - 1) i (holds_of s w i - 1) row_ok.0 in_row,
            get_or-set_same s.headers i
                (owner_left w (holds_of s w i - 1) (get_or s.headers i None)) None in_headers,
          )
          (owner_kept w (holds_of s w i - 1) (get_or s.headers i None))
      | inr e ↦
          rw (
            row-elsewhere s.holds (w - 1) i (holds_of s w i - 1) j row_ok.0 e,
            get_or-set_other s.headers i j
                (owner_left w (holds_of s w i - 1) (get_or s.headers i None)) None e,
          )
          (header_kept (holds_of s w j) (header_of s w j) (t.headers_held w j l))
    ]
