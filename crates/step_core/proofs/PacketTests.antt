-- Tests of a packet's holds, segment by segment.
use Rattle.std.proofs.Common.{◌≡◌, ℕ, suc, ◌+◌, ◌<◌, ◌≤◌, Bool, true, false, List, [], ◌∷◌, ◌++◌, Option, Some, None, length, take, drop, get_or, refl, sym, ap, ◌∙◌, arith}
use Rattle.std.specs.Prelude.{◌&&◌, nat_lt, nat_le}
use Rattle.std.proofs.Math.Seq.{drop-cons}
use Rattle.std.proofs.lemmas.Bool.{and_left, and_right, and_from}
use Rattle.std.proofs.lemmas.List.{take-append-drop, take_more}
use Rattle.std.proofs.lemmas.Grind.{flat_map-append}
use Rattle.commons.specs.Bag.{bag, one}
use Rattle.commons.specs.Packets.{holds_of_packet, holds_of_seg, hold_of}
use Rattle.commons.specs.declared.packet.Seg.{Seg}
use Rattle.commons.proofs.PacketBags.{holds-suc, bag-holds_suc, bag-seg}
use Rattle.commons.proofs.Bags.{bag-nil, bag-single}
use Rattle.step_core.specs.Bags.{all_below, includes_from}
use Rattle.step_core.proofs.LinksUp.{take_whole}

and_assoc : (a b c : Bool) → (a && (b && c)) ≡ ((a && b) && c)
and_assoc true b c = refl
and_assoc false b c = refl

pub all_below-append : (n : ℕ) (xs ys : List ℕ) → all_below n (xs ++ ys) ≡ (all_below n xs && all_below n ys)
all_below-append n [] ys = refl
all_below-append n (x ∷ xs) ys =
    ap (λ (b : Bool). nat_lt x n && b) (all_below-append n xs ys)
    ∙ and_assoc (nat_lt x n) (all_below n xs) (all_below n ys)

pub includes-append : (hs ps xs ys : List ℕ) →
    includes_from hs ps (xs ++ ys) ≡ (includes_from hs ps xs && includes_from hs ps ys)
includes-append hs ps [] ys = refl
includes-append hs ps (x ∷ xs) ys =
    ap (λ (b : Bool). nat_le (bag ps x) (bag hs x) && b) (includes-append hs ps xs ys)
    ∙ and_assoc (nat_le (bag ps x) (bag hs x)) (includes_from hs ps xs) (includes_from hs ps ys)

-- a test of lists that goes by their parts, of the holds of a packet with these segments
module _ (F : List ℕ → Bool) (by_parts : (xs ys : List ℕ) → F (xs ++ ys) ≡ (F xs && F ys))
    (packet segs : List Seg) (same : segs ≡ packet) where
  pub test_more : (i : ℕ) (d : Seg) → i < length segs → F (holds_of_packet (take i segs)) ≡ true →
      F (holds_of_seg (get_or segs i d)) ≡ true → F (holds_of_packet (take (i + 1) segs)) ≡ true
  test_more i d l e s =
      ap F (holds-suc segs i d l) ∙ (
      by_parts (holds_of_packet (take i segs)) (holds_of_seg (get_or segs i d))
      ∙ and_from _ _ e s)

  pub test_fails : (i : ℕ) (d : Seg) → i < length segs →
      F (holds_of_seg (get_or segs i d)) ≡ false → false ≡ F (holds_of_packet packet)
  test_fails i d l e =
      let cut : holds_of_packet segs ≡ holds_of_packet (take i segs)
      ++ holds_of_packet (drop i segs) =
      ap holds_of_packet (sym (take-append-drop i segs))
      ∙ flat_map-append holds_of_seg (take i segs) (drop i segs) in
      let rest : F (holds_of_packet (drop i segs)) ≡ false =
      ap (λ (ss : List Seg). F (holds_of_packet ss)) (drop-cons segs i d l)
      ∙ (by_parts (holds_of_seg (get_or segs i d)) (holds_of_packet (drop (suc i) segs))
      ∙ and_left _ _ e) in
      sym (ap (λ (ss : List Seg). F (holds_of_packet ss)) (sym same)
      ∙ (ap F cut ∙ (by_parts (holds_of_packet (take i segs)) (holds_of_packet (drop i segs)) ∙ and_right _ _ rest)))

  pub test_whole : (i : ℕ) → length segs ≤ i → F (holds_of_packet (take i segs)) ≡ true →
      true ≡ F (holds_of_packet packet)
  test_whole i l e = sym (ap (λ (ss : List Seg). F (holds_of_packet ss)) (sym (take_whole segs i l ∙ same)) ∙ e)

-- one segment more of a copy
pub copy_more : (segs copy : List Seg) (i : ℕ) (d : Seg) → i < length segs → copy ≡ take i segs →
    copy ++ get_or segs i d ∷ [] ≡ take (i + 1) segs
copy_more segs copy i d l e =
    ap (λ (ss : List Seg). ss ++ get_or segs i d ∷ []) e ∙ sym (take_more segs i d l)

pub copy_one : (segs : List Seg) (d : Seg) → 1 ≤ length segs → get_or segs 0 d ∷ [] ≡ take 1 segs
copy_one [] d l = absurd (omega arith)
copy_one (s ∷ ss) d l = refl

-- the holds so far, with one segment more
pub count_on : (segs : List Seg) (i element : ℕ) (d : Seg) (times more : ℕ) → i < length segs →
    times ≡ bag (holds_of_packet (take i segs)) element →
    more ≡ bag (holds_of_seg (get_or segs i d)) element →
    times + more ≡ bag (holds_of_packet (take (i + 1) segs)) element
count_on segs i element d times more l e m = omega (arith, bag-holds_suc segs i element d l)

-- a segment's holds, by its base
pub seg_alone : (seg : Seg) (i n : ℕ) → seg.base ≡ None → n ≡ one seg.elem i → n ≡ bag (holds_of_seg seg) i
seg_alone seg i n e is =
    let b = bag-seg seg i in
    let o = ap (λ (base : Option ℕ). bag (hold_of base) i) e in
    omega (arith, bag-nil i)

pub seg_based : (seg : Seg) (base i m n : ℕ) → seg.base ≡ Some base → m ≡ one base i →
    n ≡ one seg.elem i → m + n ≡ bag (holds_of_seg seg) i
seg_based seg base i m n e is own =
    let b = bag-seg seg i in
    let o = ap (λ (x : Option ℕ). bag (hold_of x) i) e in
    omega (arith, bag-single base i)
