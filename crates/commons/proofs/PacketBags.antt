-- What packets hold that stand in a table of slots, or on desks.
use Rattle.std.proofs.Common.{◌≡◌, ℕ, zero, suc, All, ◌+◌, ◌<◌, ◌≤◌, List, [], ◌∷◌, ◌++◌, take, drop, ap, length, get_or, set, map, replicate, Option, Some, None, sym, ◌∙◌, inl, inr, arith}
use Rattle.std.proofs.lemmas.Bool.{cases_lt}
use Rattle.std.proofs.Math.Seq.{take-suc}
use Rattle.std.proofs.lemmas.List.{get_or_past, append-nil, take-append-drop}
use Rattle.std.proofs.lemmas.Grind.{flat_map-append}
use Rattle.std.proofs.lemmas.List.Folds.{sum_by-replicate}
use Rattle.std.proofs.lemmas.List.Sums.{sum_by-set, sum_by-cons, get_or-le-sum_by}
use Rattle.std.proofs.lemmas.Option.{none-some}
use Rattle.commons.specs.Bag.{bag, one}
use Rattle.commons.specs.Packets.{hold_of, holds_of_seg, holds_of_packet, own_of_packet, holds_in_slot, own_in_slot, held_in, own_in}
use Rattle.commons.specs.declared.packet.Seg.{Seg}
use Rattle.commons.proofs.Bags.{bag-nil, bag-cons, bag-head, bag-append, bag-single}

-- a slot that has something is in the table
pub stands_within : (table : List (Option (List Seg))) (slot : ℕ) (segs : List Seg) →
    get_or table slot None ≡ Some segs → slot < length table
stands_within table slot segs e = elim (cases_lt slot (length table)) [
  | inl h ↦ h
  | inr h ↦ absurd (none-some segs (sym (get_or_past table slot None h) ∙ e))
]

-- where a slot gets other contents, the table holds what they hold, and not what was there
pub held_in-set : (table : List (Option (List Seg))) (k : ℕ) (new : Option (List Seg)) (i : ℕ) → k < length table →
    held_in (set table k new) i + bag (holds_in_slot (get_or table k None)) i
    ≡ held_in table i + bag (holds_in_slot new) i
held_in-set table k new i l = sum_by-set (λ (slot : Option (List Seg)). bag (holds_in_slot slot) i) table k new None l

-- the own elements of a slot's packet go with it, and those of the new packet come
pub own_in-set : (table : List (Option (List Seg))) (k : ℕ) (new : Option (List Seg)) (i : ℕ) → k < length table →
    own_in (set table k new) i + bag (own_in_slot (get_or table k None)) i ≡ own_in table i + bag (own_in_slot new) i
own_in-set table k new i l = sum_by-set (λ (slot : Option (List Seg)). bag (own_in_slot slot) i) table k new None l

-- what is in a slot holds no more than the table
pub held_in-slot : (table : List (Option (List Seg))) (k : ℕ) (i : ℕ) → k < length table →
    bag (holds_in_slot (get_or table k None)) i ≤ held_in table i
held_in-slot table k i l = get_or-le-sum_by (λ (slot : Option (List Seg)). bag (holds_in_slot slot) i) table k None l

-- the packet in a slot has no more own elements than the table
pub own_in-slot : (table : List (Option (List Seg))) (k : ℕ) (i : ℕ) → k < length table →
    bag (own_in_slot (get_or table k None)) i ≤ own_in table i
own_in-slot table k i l = get_or-le-sum_by (λ (slot : Option (List Seg)). bag (own_in_slot slot) i) table k None l

-- a segment holds its base and its own element
pub bag-seg : (seg : Seg) (i : ℕ) → bag (holds_of_seg seg) i ≡ bag (hold_of seg.base) i + one seg.elem i
bag-seg seg i = omega (arith, bag-append (hold_of seg.base) (seg.elem ∷ []) i, bag-single seg.elem i)

-- a packet holds its own elements
pub own_held : (segs : List Seg) (i : ℕ) → bag (own_of_packet segs) i ≤ bag (holds_of_packet segs) i
own_held [] i = omega arith
own_held (seg ∷ segs) i = omega (
  arith,
  own_held segs i,
  bag-cons seg.elem (map (λ seg. seg.elem) segs) i,
  bag-append (holds_of_seg seg) (holds_of_packet segs) i,
  bag-append (hold_of seg.base) (seg.elem ∷ []) i,
  bag-single seg.elem i,
)

-- a segment's element is an own one of its packet
own_at : (segs : List Seg) (k : ℕ) (d : Seg) → k < length segs → 0 < bag (own_of_packet segs) (get_or segs k d).elem
own_at [] k d h = absurd (omega arith)
own_at (seg ∷ segs) zero d h = bag-head seg.elem (own_of_packet segs)
own_at (seg ∷ segs) (suc k) d h =
    omega (
      arith,
      bag-cons seg.elem (own_of_packet segs) (get_or segs k d).elem,
      own_at segs k d (omega arith),
    )

-- where own elements are below a bound, each segment's element is
pub own_below : (n : ℕ) (segs : List Seg) → ((i : ℕ) → 0 < bag (own_of_packet segs) i → i < n) →
    All (λ seg. seg.elem < n) segs
own_below n segs h k d l = h (get_or segs k d).elem (own_at segs k d l)

-- a slot's packet holds its own elements, and an empty slot has neither
own_held-slot : (slot : Option (List Seg)) (i : ℕ) → bag (own_in_slot slot) i ≤ bag (holds_in_slot slot) i
own_held-slot None i = omega arith
own_held-slot (Some segs) i = own_held segs i

-- in a whole table too, own elements are held ones
pub own_in-held : (table : List (Option (List Seg))) (i : ℕ) → own_in table i ≤ held_in table i
own_in-held [] i = omega arith
own_in-held (slot ∷ table) i = omega (
  arith,
  own_in-held table i,
  own_held-slot slot i,
  sum_by-cons (λ (s : Option (List Seg)). bag (own_in_slot s) i) slot table,
  sum_by-cons (λ (s : Option (List Seg)). bag (holds_in_slot s) i) slot table,
)

-- ---- the segments so far

-- with one segment more the holds are those of the others, and then that segment's
pub holds-suc : (segs : List Seg) (k : ℕ) (d : Seg) → k < length segs →
    holds_of_packet (take (k + 1) segs) ≡ holds_of_packet (take k segs)
    ++ holds_of_seg (get_or segs k d)
holds-suc segs k d within =
    let e : k + 1 ≡ suc k = omega arith in
    ap (λ (n : ℕ). holds_of_packet (take n segs)) e ∙ ap holds_of_packet (take-suc segs k d within)
    ∙ flat_map-append holds_of_seg (take k segs) (get_or segs k d ∷ [])
    ∙ ap (λ (es : List ℕ). holds_of_packet (take k segs) ++ es)
    (append-nil (holds_of_seg (get_or segs k d)))

-- one segment more adds what that segment holds, counted at each element
pub bag-holds_suc : (segs : List Seg) (k i : ℕ) (d : Seg) → k < length segs →
    bag (holds_of_packet (take (k + 1) segs)) i
    ≡ bag (holds_of_packet (take k segs)) i + bag (holds_of_seg (get_or segs k d)) i
bag-holds_suc segs k i d within =
    ap (λ (es : List ℕ). bag es i) (holds-suc segs k d within)
    ∙ bag-append (holds_of_packet (take k segs)) (holds_of_seg (get_or segs k d)) i

-- the segments so far hold no more than all
pub holds_so_far : (segs : List Seg) (k i : ℕ) → bag (holds_of_packet (take k segs)) i ≤ bag (holds_of_packet segs) i
holds_so_far segs k i =
    let whole =
    ap (λ (es : List ℕ). bag es i) (
    sym (flat_map-append holds_of_seg (take k segs) (drop k segs))
    ∙ ap holds_of_packet (take-append-drop k segs)) in
    omega (arith, whole, bag-append (holds_of_packet (take k segs)) (holds_of_packet (drop k segs)) i)

-- where nothing stands, nothing is held
pub held_in-empty : (n i : ℕ) → held_in (replicate n None) i ≡ 0
held_in-empty n i =
    sum_by-replicate (λ (slot : Option (List Seg)). bag (holds_in_slot slot) i) n None
    ∙ rw (bag-nil i) (omega arith)

-- where nothing stands, there are no own elements
pub own_in-empty : (n i : ℕ) → own_in (replicate n None) i ≡ 0
own_in-empty n i =
    sum_by-replicate (λ (slot : Option (List Seg)). bag (own_in_slot slot) i) n None
    ∙ rw (bag-nil i) (omega arith)
