-- Guests by the numbers of their workers.
use Rattle.std.proofs.Common.{ℕ, ◌≡◌, ◌≢◌, ◌+◌, ◌<◌, ◌≤◌, ◌==◌, inl, inr, cond, List, [], ◌∷◌, ◌++◌, length, get_or, set, take, replicate, Vec, sym, ap, ◌∙◌, arith}
use Rattle.std.specs.declared.alloc.Global.{Global}
use Rattle.std.proofs.Math.ListN.{length-set}
use Rattle.std.proofs.lemmas.Bool.{cases_eq, cases_lt}
use Rattle.std.proofs.lemmas.Bool.Decides.{nat_tests}
use Rattle.std.proofs.lemmas.List.{get_or-map, get_or-replicate, get_or-set_other, get_or-set_same, get_or_past, length-map, length-replicate, map-set}
use Rattle.std.proofs.lemmas.List.Sums.{sum_by-cons, sum_by_more}
use Rattle.commons.specs.Bag.{bag, one}
use Rattle.commons.proofs.Bags.{bag-append, bag-nil, bag-single}
use Rattle.pool_statement.specs.declared.guest.Guest.{Guest}
use Rattle.pool_model.specs.Guests.{guest_holds, guests_of}
use Rattle.snapshot.specs.inside.Adding.{AreByWorker, lists_of}

-- stands for a guest where there is none
abbrev pub no_guest : Guest
no_guest = record { worker = 0; elem = 0 }

-- empty lists have no guests
pub hosted-none : (workers : ℕ) (lists : List (List ℕ)) → lists ≡ replicate (workers + 1) [] →
    AreByWorker workers [] lists
hosted-none workers lists e = record {
  len = ap length e ∙ length-replicate (workers + 1) [];
  each = λ w i l.
      let below : w < workers + 1 = omega (arith, l, ap length e, length-replicate {A = List ℕ} (workers + 1) []) in
      ap (λ (t : List (List ℕ)). bag (get_or t w []) i) e
      ∙ ap (λ (es : List ℕ). bag es i) (get_or-replicate (workers + 1) w [] [] below)
      ∙ bag-nil i;
}

flag-same : (a b x : ℕ) → a ≡ b → ◌≡◌ {A = ℕ} (cond (a == b) x 0) x
flag-same a b x e = grind (arith, nat_tests)

flag-apart : (a b x : ℕ) → a ≢ b → ◌≡◌ {A = ℕ} (cond (a == b) x 0) 0
flag-apart a b x e = grind (arith, nat_tests)

-- one guest more, in the list of its worker
hosted-one : (workers : ℕ) (guests : List Guest) (k : ℕ) (old new : List (List ℕ)) →
    let guest = get_or guests k no_guest in
    k < length guests → guest.worker < length old →
    new ≡ set old guest.worker (get_or old guest.worker [] ++ guest.elem ∷ []) →
    AreByWorker workers (take k guests) old → AreByWorker workers (take (k + 1) guests) new
hosted-one workers guests k old new l there e h =
    let guest = get_or guests k no_guest in
    let list : List ℕ = get_or old guest.worker [] ++ guest.elem ∷ [] in
    record {
      len = ap length e ∙ length-set old guest.worker list ∙ h.len;
      each = λ w i low.
          let below : w < length old = omega (arith, low, ap length e, length-set old guest.worker list) in
          let more = sum_by_more (λ (g : Guest). cond (w == g.worker) (one g.elem i) 0) guests k no_guest l in
          elim (cases_eq w guest.worker) [
            | inl same ↦
                let now : get_or new w [] ≡ list =
                ap (λ (t : List (List ℕ)). get_or t w []) e
                ∙ ap (λ (v : ℕ). get_or (set old guest.worker list) v []) same
                ∙ get_or-set_same old guest.worker list [] there in
                let before = h.each w i below in
                let here = rw same at before in
                omega (
                  arith,
                  ap (λ (es : List ℕ). bag es i) now,
                  bag-append (get_or old guest.worker []) (guest.elem ∷ []) i,
                  bag-single guest.elem i,
                  ap (λ (v : ℕ). bag (get_or old v []) i) same,
                  before,
                  more,
                  flag-same w guest.worker (one guest.elem i) same,
                )
            | inr apart ↦
                let now : get_or new w [] ≡ get_or old w [] =
                ap (λ (t : List (List ℕ)). get_or t w []) e ∙ get_or-set_other old guest.worker w list [] apart in
                omega (
                  arith,
                  ap (λ (es : List ℕ). bag es i) now,
                  h.each w i below,
                  more,
                  flag-apart w guest.worker (one guest.elem i) apart,
                )
          ];
    }

-- the same of a table of vectors, one of which is pushed to
pub hosted-push : (workers : ℕ) (guests : List Guest) (k : ℕ) (table : List (Vec ℕ Global))
    (before after : Vec ℕ Global) → let guest = get_or guests k no_guest in
    k < length guests → guest.worker < length (lists_of table) →
    before ≡ get_or table guest.worker before → after.items ≡ before.items ++ guest.elem ∷ [] →
    AreByWorker workers (take k guests) (lists_of table) →
    AreByWorker workers (take (k + 1) guests) (lists_of (set table guest.worker after))
hosted-push workers guests k table before after l there e pushed h =
    let guest = get_or guests k no_guest in
    let within : guest.worker < length table =
    omega (arith, there, length-map table (λ (v : Vec ℕ Global). v.items)) in
    let list : before.items ≡ get_or (lists_of table) guest.worker [] =
    ap (λ (v : Vec ℕ Global). v.items) e
    ∙ sym (get_or-map (λ (v : Vec ℕ Global). v.items) table guest.worker before [] within) in
    hosted-one workers guests k (lists_of table) (lists_of (set table guest.worker after)) l there
    (map-set (λ (v : Vec ℕ Global). v.items) table guest.worker after
    ∙ ap (λ (xs : List ℕ). set (lists_of table) guest.worker xs)
    (pushed ∙ ap (λ (xs : List ℕ). xs ++ guest.elem ∷ []) list)) h

-- a list of the table
pub hosted-at : (table : List (Vec ℕ Global)) (w : ℕ) (list : Vec ℕ Global) (own : List ℕ) → w < length table →
    list ≡ get_or table w list → own ≡ list.items → own ≡ get_or (lists_of table) w []
hosted-at table w list own l is same =
    same ∙ ap (λ (v : Vec ℕ Global). v.items) is
    ∙ sym (get_or-map (λ (v : Vec ℕ Global). v.items) table w list [] l)

-- a worker's guests are no more often an element than all guests are
guests_of-le : (guests : List Guest) (w i : ℕ) → guests_of guests w i ≤ guest_holds guests i
guests_of-le [] w i = omega arith
guests_of-le (g ∷ guests) w i = elim (cases_eq w g.worker) [
  | inl same ↦ omega (
    arith,
    sum_by-cons (λ (g : Guest). cond (w == g.worker) (one g.elem i) 0) g guests,
    sum_by-cons (λ (g : Guest). one g.elem i) g guests,
    flag-same w g.worker (one g.elem i) same,
    guests_of-le guests w i,
  )
  | inr apart ↦ omega (
    arith,
    sum_by-cons (λ (g : Guest). cond (w == g.worker) (one g.elem i) 0) g guests,
    sum_by-cons (λ (g : Guest). one g.elem i) g guests,
    flag-apart w g.worker (one g.elem i) apart,
    guests_of-le guests w i,
  )
]

-- what isn't a guest is in no list
pub hosted-nowhere : (workers : ℕ) (guests : List Guest) (lists : List (List ℕ)) → AreByWorker workers guests lists →
    (i : ℕ) → guest_holds guests i ≡ 0 → (w : ℕ) → bag (get_or lists w []) i ≡ 0
hosted-nowhere workers guests lists h i none w = elim (cases_lt w (length lists)) [
  | inl l ↦ omega (arith, h.each w i l, guests_of-le guests w i, none)
  | inr l ↦ ap (λ (es : List ℕ). bag es i) (get_or_past lists w [] l) ∙ bag-nil i
]
