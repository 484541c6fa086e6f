-- What an offer and a take do to a table.
use Rattle.std.proofs.Common.{◌≡◌, ◌≢◌, ℕ, zero, suc, ◌+◌, ◌-◌, ◌<◌, ◌≤◌, ◌==◌, All, inl, inr, Bool, true, false, cond, nat_lt, List, [], length, get_or, set, length-set, get_or-set_same, get_or-set_other, Option, Some, None, refl, sym, ap, ◌∙◌, arith}
use Rattle.std.proofs.lemmas.List.Sums.{sum_by-set}
use Rattle.std.proofs.lemmas.Bool.Decides.{nat_tests}
use Rattle.commons.specs.declared.packet.Seg.{Seg}
use Rattle.commons.specs.Bag.{bag}
use Rattle.commons.specs.Lists.{Lists, IsTable, KeepsOthers, HasMore, HasLess, place_of, held_count, holds_of, holds_of_all, header_of, desk_of, is_owner, owners, disowned, owner_left, placed}
use Rattle.commons.specs.Packets.{holds_of_packet, own_of_packet, holds_in_slot, own_in_slot, held_in, own_in}
use Rattle.commons.specs.inside.Site.{HasEnded}
use Rattle.commons.proofs.Bags.{bag-nil}
use Rattle.commons.proofs.PacketBags.{held_in-set, own_in-set, own_held, own_below}
use Rattle.commons.proofs.Places.{zero_or_more, apart_or_same, length-placed, placed-out, placed-in, counted_in, stands}
use Rattle.commons.proofs.Holds.{owner-same, owner-other, owner_left-other, owner_left-le, owner_left-worker, IsWorker, owned_at, owned_by_all}
use Rattle.commons.proofs.Single.{owner_kept}
use Rattle.commons.proofs.Tables.{row_below}
use Rattle.commons.proofs.EndedRows.{chosen_none, chosen_some}

-- the lists with another row of holds for a worker, other headers, and this on a desk
abbrev pub passed : ℕ → ℕ → Option (List Seg) → List ℕ → List (Option ℕ) → Lists → Lists
passed w d packet row headers s = record s
    { holds = set s.holds (w - 1) row; headers = headers; desks = set s.desks d packet }

-- a worker whose header it is, is its owner
owned_by : (w : ℕ) (owner : Option ℕ) → 0 < is_owner w owner → owner ≡ Some w
owned_by w None h = absurd (omega arith)
owned_by w (Some v) h = ap Some (let e : v ≡ w = grind (arith, nat_tests) in e)

-- a worker's header has an owner
is_owner-le : (w : ℕ) (owner : Option ℕ) → is_owner w owner ≤ owners owner
is_owner-le w None = omega arith
is_owner-le w (Some v) = let e : ◌≤◌ (cond (v == w) 1 0) 1 = grind (arith, nat_tests) in e

-- a header that the test finds to be another's isn't given up
disown_kept : (b : Bool) (v : ℕ) → ◌≡◌ {A = ℕ} (cond b 1 0) 0 → cond b None (Some v) ≡ Some v
disown_kept true v h = absurd (omega arith)
disown_kept false v h = refl

-- whose header it isn't has none to give up
disowned-kept : (w : ℕ) (owner : Option ℕ) → is_owner w owner ≡ 0 → disowned w owner ≡ owner
disowned-kept w None h = refl
disowned-kept w (Some v) h = disown_kept (v == w) v h

-- a header is kept where holds are left, and where it was another's
owner_left-kept : (w left : ℕ) (owner : Option ℕ) → (left ≡ 0 → is_owner w owner ≡ 0) → owner_left w left owner ≡ owner
owner_left-kept w zero owner h = disowned-kept w owner (h refl)
owner_left-kept w (suc left) owner h = refl

module _ (s : Lists) (w d : ℕ) (new : Option (List Seg)) (row : List ℕ) (headers : List (Option ℕ))
    (t : IsTable s) (l : 1 ≤ w) (b : w ≤ s.limits.workers) where
  row_ok : (w - 1 < length s.holds) × (length (get_or s.holds (w - 1) []) ≡ s.limits.population)
  row_ok = row_below s w t l b

  pub holds_passed : (i : ℕ) → holds_of (passed w d new row headers s) w i ≡ get_or row i 0
  holds_passed i = rw (get_or-set_same s.holds (w - 1) row [] row_ok.0) refl

  pub holds_passed_other : (v i : ℕ) → 1 ≤ v → v ≢ w → holds_of (passed w d new row headers s) v i ≡ holds_of s v i
  holds_passed_other v i k e = rw (get_or-set_other s.holds (w - 1) (v - 1) row [] (λ f. e (omega arith))) refl

  all_passed : (i : ℕ) → holds_of_all (passed w d new row headers s) i + holds_of s w i
      ≡ holds_of_all s i + get_or row i 0
  all_passed i = sum_by-set (λ (r : List ℕ). get_or r i 0) s.holds (w - 1) row [] row_ok.0

  -- every row has the length of the population, whichever worker's it is
  rows_passed : (v : ℕ) → v < s.limits.workers → length row ≡ s.limits.population →
      length (get_or (set s.holds (w - 1) row) v []) ≡ s.limits.population
  rows_passed v k len = elim (apart_or_same (w - 1) v) [
    | inl e ↦ rw (e, get_or-set_same s.holds (w - 1) row [] row_ok.0) len
    | inr e ↦ rw (get_or-set_other s.holds (w - 1) v row [] e) (t.rows v k)
  ]

  -- what passes between a worker and a desk leaves a table
  pub table_passed : length row ≡ length (get_or s.holds (w - 1) []) → length headers ≡ length s.headers →
      ((i : ℕ) → get_or row i 0 + held_in (set s.desks d new) i ≡ holds_of s w i + held_in s.desks i) →
      ((i : ℕ) → IsWorker s.limits.workers (get_or headers i None)) →
      ((v i : ℕ) → 1 ≤ v → 0 < is_owner v (get_or headers i None) → 0 < holds_of (passed w d new row headers s) v i) →
      ((i : ℕ) → owners (get_or headers i None) + own_in (set s.desks d new) i ≤ 1) →
      IsTable (passed w d new row headers s)
  table_passed len wide sum owned held apart = record {
    pool = t.pool;
    elements = t.elements;
    shown = t.shown;
    somewhere = t.somewhere;
    workers = length-set s.holds (w - 1) row ∙ t.workers;
    rows = λ v k. rows_passed v k (len ∙ row_ok.1);
    counted = λ i. omega (arith, t.counted i, all_passed i, sum i);
    limited = t.limited;
    header_places = wide ∙ t.header_places;
    owned = owned_by_all s.limits.workers headers owned;
    headers_held = held;
    headers_apart = apart;
    desks = length-set s.desks d new ∙ t.desks;
    changed = t.changed;
  }

-- ---- an offer

module _ (s : Lists) (w d : ℕ) (packet : List Seg) (row : List ℕ) (headers : List (Option ℕ))
    (t : IsTable s) (l : 1 ≤ w) (b : w ≤ s.limits.workers)
    (ended : HasEnded w (holds_of_packet packet) (get_or s.holds (w - 1) []) s.headers row headers)
    (own : (i : ℕ) → bag (own_of_packet packet) i ≤ header_of s w i) (here : d < length s.desks)
    (empty : desk_of s d ≡ None) where
  -- the lists afterwards
  abbrev pub offered : Lists
  offered = passed w d (Some packet) row (placed (own_of_packet packet) None headers) s

  -- each header is what the end of its holds leaves of it, whether the packet has the element or
  -- not
  left : (i : ℕ) → get_or headers i None ≡ owner_left w (get_or row i 0) (get_or s.headers i None)
  left i = elim (zero_or_more (bag (holds_of_packet packet) i)) [
    | inl z ↦
        ended.owned i ∙ chosen_none (bag (holds_of_packet packet) i)
        (owner_left w (get_or row i 0) (get_or s.headers i None)) (get_or s.headers i None) z
        ∙ sym (owner_left-kept w (get_or row i 0) (get_or s.headers i None) (λ e. elim
        (zero_or_more (header_of s w i)) [
          | inl f ↦ f
          | inr f ↦ absurd (omega (arith, t.headers_held w i l f, ended.holds i, z, e))
        ]))
    | inr p ↦
        ended.owned i ∙ chosen_some (bag (holds_of_packet packet) i)
        (owner_left w (get_or row i 0) (get_or s.headers i None)) (get_or s.headers i None) p
  ]

  not_own : (i : ℕ) → bag (own_of_packet packet) i ≡ 0 →
      get_or offered.headers i None ≡ owner_left w (get_or row i 0) (get_or s.headers i None)
  not_own i z = placed-out (own_of_packet packet) None None headers i z ∙ left i

  -- an own element of the packet that is offered is nobody's header
  is_own : (i : ℕ) → 0 < bag (own_of_packet packet) i → get_or offered.headers i None ≡ None
  is_own i p = placed-in (own_of_packet packet) None None headers i p (omega (
    arith,
    counted_in (get_or s.holds (w - 1) []) i (t.headers_held w i l (omega (arith, own i))),
    (row_below s w t l b).1,
    t.header_places,
    ended.headers_len,
  ))

  was_owner : (i : ℕ) → 0 < bag (own_of_packet packet) i → get_or s.headers i None ≡ Some w
  was_owner i p = owned_by w (get_or s.headers i None) (omega (arith, own i))

  chosen_zero : (n : ℕ) → ◌≡◌ {A = ℕ} (cond (nat_lt 0 n) 0 0) 0
  chosen_zero n = grind (arith, nat_tests)

  -- a header is kept where a hold of it is left, unless it is an own element of the packet
  headers_offered : (i : ℕ) → header_of offered w i
      ≡ cond (nat_lt 0 (holds_of offered w i)) (header_of s w i - bag (own_of_packet packet) i) 0
  headers_offered i =
      rw (holds_passed s w d (Some packet) row (placed (own_of_packet packet) None headers) t l b i)
      (elim (zero_or_more (bag (own_of_packet packet) i)) [
        | inl z ↦
            let same : header_of s w i - bag (own_of_packet packet) i ≡ header_of s w i = omega (arith, z) in
            rw (not_own i z, same) (owner_kept w (get_or row i 0) (get_or s.headers i None))
        | inr p ↦
            let gone : header_of s w i - bag (own_of_packet packet) i ≡ 0 =
            omega (arith, p, ap (is_owner w) (was_owner i p), owner-same w) in
            rw (is_own i p, gone) (sym (chosen_zero (get_or row i 0)))
      ])

  -- where a hold is left, the header is as before but for own elements
  some_left : (held before own after : ℕ) → after ≡ cond (nat_lt 0 held) (before - own) 0 →
      own ≤ before → 0 < held → before ≡ after + own
  some_left held before own after h few p = grind (arith, nat_tests)

  none_left : (held before after : ℕ) → after ≡ cond (nat_lt 0 held) before 0 → held ≡ 0 → after ≡ 0
  none_left held before after h z = grind (arith, nat_tests)

  -- the worker has the packet's holds less, and no header without a hold
  pub less_offered : HasLess w packet s offered
  less_offered = record {
    holds =
        λ i.
        omega (
          arith,
          holds_passed s w d (Some packet) row
              (placed (own_of_packet packet) None headers) t l b i,
          ended.holds i,
        );
    own = own;
    left =
        λ i p.
        some_left (holds_of offered w i) (header_of s w i) (bag (own_of_packet packet) i)
        (header_of offered w i) (headers_offered i) (own i) p;
    ended =
        λ i z.
        none_left (holds_of offered w i) (header_of s w i - bag (own_of_packet packet) i)
        (header_of offered w i) (headers_offered i) z;
  }

  -- every other worker has the hands, holds and headers that it had
  pub others_offered : KeepsOthers w s offered
  others_offered = record {
    hands = λ v i e. refl;
    holds =
        λ v i k e.
        holds_passed_other s w d (Some packet) row (placed (own_of_packet packet) None headers) t
        l b v i k e;
    headers = λ v i e. elim (zero_or_more (bag (own_of_packet packet) i)) [
      | inl z ↦ rw (not_own i z) (owner_left-other v w (get_or row i 0) (get_or s.headers i None) e)
      | inr p ↦ rw (is_own i p, was_owner i p) (sym (owner-other v w e))
    ];
  }

  -- the desks hold what the packet holds more
  desk_holds : (i : ℕ) → held_in offered.desks i ≡ held_in s.desks i + bag (holds_of_packet packet) i
  desk_holds i =
      omega (
        arith,
        held_in-set s.desks d (Some packet) i here,
        ap (λ (x : Option (List Seg)). bag (holds_in_slot x) i) empty,
        bag-nil i,
      )

  -- the desks have the packet's own elements more
  desk_owns : (i : ℕ) → own_in offered.desks i ≡ own_in s.desks i + bag (own_of_packet packet) i
  desk_owns i =
      omega (
        arith,
        own_in-set s.desks d (Some packet) i here,
        ap (λ (x : Option (List Seg)). bag (own_in_slot x) i) empty,
        bag-nil i,
      )

  still_held : (held header : ℕ) → 0 < cond (nat_lt 0 held) header 0 → 0 < held
  still_held held header h = grind (arith, nat_tests)

  -- what an offer leaves is a table: each hold that leaves the row is now the desk's
  pub table_offered : IsTable offered
  table_offered =
      table_passed s w d (Some packet) row (placed (own_of_packet packet) None headers) t l b
      ended.len (length-placed (own_of_packet packet) None headers ∙ ended.headers_len)
      (λ i. omega (arith, desk_holds i, ended.holds i))
      (λ i. elim (zero_or_more (bag (own_of_packet packet) i)) [
        | inl z ↦
            rw (not_own i z) (owner_left-worker s.limits.workers w (get_or row i 0)
            (get_or s.headers i None) (owned_at s t i))
        | inr p ↦ rw (is_own i p) tt
      ])
      (λ v i k o. elim (apart_or_same w v) [
        | inl e ↦
            let o' = rw e at o in
            rw e (still_held (holds_of offered w i) (header_of s w i - bag (own_of_packet packet) i)
            (omega (arith, o', headers_offered i)))
        | inr e ↦ omega (arith, o, others_offered.headers v i e, others_offered.holds v i k e, t.headers_held v i k)
      ])
      (λ i. elim (zero_or_more (bag (own_of_packet packet) i)) [
        | inl z ↦
            rw (not_own i z) (omega (
              arith,
              owner_left-le w (get_or row i 0) (get_or s.headers i None),
              desk_owns i,
              z,
              t.headers_apart i,
            ))
        | inr p ↦
            rw (is_own i p) (omega (
              arith,
              desk_owns i,
              own i,
              ap owners (was_owner i p),
              ap (is_owner w) (was_owner i p),
              owner-same w,
              t.headers_apart i,
            ))
      ])

-- ---- a take

-- what is on a desk is held
module _ (s : Lists) (d : ℕ) (packet : List Seg) (t : IsTable s) (here : d < length s.desks)
    (full : desk_of s d ≡ Some packet) where
  -- what the desks hold is what is left on them without this packet, and what it holds
  pub from_desk : (i : ℕ) → held_in (set s.desks d None) i + bag (holds_of_packet packet) i ≡ held_in s.desks i
  from_desk i =
      omega (
        arith,
        held_in-set s.desks d None i here,
        ap (λ (x : Option (List Seg)). bag (holds_in_slot x) i) full,
        bag-nil i,
      )

  -- the own elements on desks are those of the others, and this packet's
  pub owned_on_desk : (i : ℕ) → own_in (set s.desks d None) i + bag (own_of_packet packet) i ≡ own_in s.desks i
  owned_on_desk i =
      omega (
        arith,
        own_in-set s.desks d None i here,
        ap (λ (x : Option (List Seg)). bag (own_in_slot x) i) full,
        bag-nil i,
      )

  -- what a packet on a desk holds has a count above 0, so it is an element of the pool
  pub held_on_desk : (i : ℕ) → 0 < bag (holds_of_packet packet) i → i < s.limits.population
  held_on_desk i p = omega (
    arith,
    stands s.places i (λ e. let k = ap held_count e in omega (arith, k, t.counted i, from_desk i, p)),
    t.elements,
  )

  -- the own elements of a packet on a desk are elements of the pool, so each has a header's place
  pub own_on_desk : All (λ seg. seg.elem < length s.headers) packet
  own_on_desk =
      own_below (length s.headers) packet (λ i p.
      omega (arith, held_on_desk i (omega (arith, own_held packet i, p)), t.header_places))

-- a worker and a desk together hold no more than all do
pub few_taken : (s : Lists) (w d : ℕ) (packet : List Seg) → IsTable s → 1 ≤ w →
    w ≤ s.limits.workers → d < length s.desks → desk_of s d ≡ Some packet →
    (i : ℕ) → holds_of s w i + bag (holds_of_packet packet) i ≤ held_count (place_of s i)
few_taken s w d packet t l b here full i =
    omega (
      arith,
      t.counted i,
      from_desk s d packet t here full i,
      sum_by-set (λ (r : List ℕ). get_or r i 0) s.holds (w - 1) [] [] (row_below s w t l b).0,
    )

module _ (s : Lists) (w d : ℕ) (packet : List Seg) (row : List ℕ) (t : IsTable s) (l : 1 ≤ w) (b : w ≤ s.limits.workers)
    (sum : (i : ℕ) → get_or row i 0 ≡ holds_of s w i + bag (holds_of_packet packet) i)
    (len : length row ≡ length (get_or s.holds (w - 1) []))
    (here : d < length s.desks) (full : desk_of s d ≡ Some packet) where
  -- the lists afterwards
  abbrev pub taken : Lists
  taken = passed w d None row (placed (own_of_packet packet) (Some w) s.headers) s

  not_own_taken : (i : ℕ) → bag (own_of_packet packet) i ≡ 0 → get_or taken.headers i None ≡ get_or s.headers i None
  not_own_taken i z = placed-out (own_of_packet packet) (Some w) None s.headers i z

  -- an own element of the packet that is taken is this worker's header
  is_own_taken : (i : ℕ) → 0 < bag (own_of_packet packet) i → get_or taken.headers i None ≡ Some w
  is_own_taken i p =
      placed-in (own_of_packet packet) (Some w) None s.headers i p (omega (
        arith,
        held_on_desk s d packet t here full i (omega (arith, own_held packet i)),
        t.header_places,
      ))

  -- the worker has the packet's holds more, and its own elements as headers
  pub more_taken : HasMore w packet s taken
  more_taken = record {
    holds = λ i. holds_passed s w d None row (placed (own_of_packet packet) (Some w) s.headers) t l b i ∙ sum i;
    headers = λ i. elim (zero_or_more (bag (own_of_packet packet) i)) [
      | inl z ↦ rw (not_own_taken i z) (omega (arith, z))
      | inr p ↦
          rw (is_own_taken i p) (omega (
            arith,
            owner-same w,
            is_owner-le w (get_or s.headers i None),
            t.headers_apart i,
            owned_on_desk s d packet t here full i,
            p,
          ))
    ];
  }

  -- every other worker has what it had, since an own element on a desk was nobody's header
  pub others_taken : KeepsOthers w s taken
  others_taken = record {
    hands = λ v i e. refl;
    holds =
        λ v i k e.
        holds_passed_other s w d None row (placed (own_of_packet packet) (Some w) s.headers) t l b
        v i k e;
    headers = λ v i e. elim (zero_or_more (bag (own_of_packet packet) i)) [
      | inl z ↦ rw (not_own_taken i z) refl
      | inr p ↦
          rw (is_own_taken i p) (omega (
            arith,
            owner-other v w e,
            is_owner-le v (get_or s.headers i None),
            t.headers_apart i,
            owned_on_desk s d packet t here full i,
            p,
          ))
    ];
  }

  -- what a take leaves is a table: each hold that leaves the desk is now in the worker's row
  pub table_taken : IsTable taken
  table_taken =
      table_passed s w d None row (placed (own_of_packet packet) (Some w) s.headers) t l b len
      (length-placed (own_of_packet packet) (Some w) s.headers)
      (λ i. omega (arith, from_desk s d packet t here full i, sum i))
      (λ i. elim (zero_or_more (bag (own_of_packet packet) i)) [
        | inl z ↦ rw (not_own_taken i z) (owned_at s t i)
        | inr p ↦ rw (is_own_taken i p) (l, b)
      ])
      (λ v i k o. elim (apart_or_same w v) [
        | inl e ↦
            let o' = rw e at o in
            rw e (elim (zero_or_more (bag (own_of_packet packet) i)) [
              | inl z ↦
                  omega (
                    arith,
                    more_taken.holds i,
                    t.headers_held w i l (omega (arith, o', more_taken.headers i, z)),
                  )
              | inr p ↦ omega (arith, p, more_taken.holds i, own_held packet i)
            ])
        | inr e ↦ omega (arith, o, others_taken.headers v i e, others_taken.holds v i k e, t.headers_held v i k)
      ])
      (λ i. elim (zero_or_more (bag (own_of_packet packet) i)) [
        | inl z ↦ rw (not_own_taken i z) (omega (arith, owned_on_desk s d packet t here full i, z, t.headers_apart i))
        | inr p ↦ rw (is_own_taken i p) (omega (arith, owned_on_desk s d packet t here full i, p, t.headers_apart i))
      ])

-- the own elements of what a worker offers or takes have headers
pub is_below : (s : Lists) (w : ℕ) (packet : List Seg) → IsTable s → 1 ≤ w → w ≤ s.limits.workers →
    ((i : ℕ) → bag (own_of_packet packet) i ≤ header_of s w i) →
    All (λ seg. seg.elem < length s.headers) packet
is_below s w packet t l b own = own_below (length s.headers) packet (λ i p. omega (
  arith,
  counted_in (get_or s.holds (w - 1) []) i (t.headers_held w i l (omega (arith, own i, p))),
  (row_below s w t l b).1,
  t.header_places,
))
