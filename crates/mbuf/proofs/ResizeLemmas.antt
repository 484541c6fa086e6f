-- A change of a packet's lengths keeps what it holds.
use Rattle.std.proofs.Common.{◌≡◌, ℕ, zero, suc, ◌+◌, ◌-◌, ◌<◌, Bool, true, false, cond, nat_le, List, [], ◌∷◌, ◌++◌, length, get_or, set, map, Option, Some, None, refl, sym, ap, ◌∙◌, arith}
use Rattle.commons.proofs.Sames.{some-is}
use Rattle.commons.specs.Bag.{bag}
use Rattle.commons.specs.declared.packet.Seg.{Seg}
use Rattle.mbuf.specs.inside.Changes.{resized}
use Rattle.mbuf.specs.inside.Kept.{KeepsHolds}
use Rattle.mbuf.specs.Lengths.{with_seg, appended, prepended, adjusted, trimmed, grown_behind, grown_in_front, cut_in_front, cut_behind}
use Rattle.commons.specs.Packets.{no_seg, hold_of, holds_of_seg, holds_of_packet}
use Rattle.mbuf.specs.Members.{Member}
use Rattle.commons.specs.Calls.{Side}
use Rattle.mbuf.specs.Own.{OwnWith}
use Rattle.commons.specs.declared.change.Change.{Change}
use Rattle.commons.specs.declared.change.Change.TheVariants.{Append, Prepend, Adj, Trim}
use Rattle.commons.proofs.PacketBags.{held_in-set, own_in-set}

-- two segments hold the same
abbrev SameHolds : Seg → Seg → Type 0
SameHolds seg other = (seg.elem ≡ other.elem) × (seg.base ≡ other.base)

-- what is given only where a test allows holds the same, where the new segment does
chosen : (b : Bool) (seg new other : Seg) → cond b (Some new) None ≡ Some seg →
    SameHolds new other → SameHolds seg other
chosen true seg new other e h =
    let same = some-is new seg e in
    (sym (ap (λ (s : Seg). s.elem) same) ∙ h.0, sym (ap (λ (s : Seg). s.base) same) ∙ h.1)
chosen false seg new other e h = absurd cc

-- A segment with the same element and base leaves the packet's holds as they are.
holds-set : (segs : List Seg) (k : ℕ) (seg : Seg) → SameHolds seg (get_or segs k no_seg) →
    holds_of_packet (set segs k seg) ≡ holds_of_packet segs
holds-set [] k seg h = refl
holds-set (first ∷ segs) zero seg h =
    ap (λ (es : List ℕ). es ++ holds_of_packet segs) (
    ap (λ (b : Option ℕ). hold_of b ++ seg.elem ∷ []) h.1
    ∙ ap (λ (e : ℕ). hold_of first.base ++ e ∷ []) h.0)
holds-set (first ∷ segs) (suc k) seg h = ap (λ (es : List ℕ). holds_of_seg first ++ es) (holds-set segs k seg h)

-- A segment with the same element and base leaves the packet's own elements as they are.
elems-set : (segs : List Seg) (k : ℕ) (seg : Seg) → SameHolds seg (get_or segs k no_seg) →
    map (λ s. s.elem) (set segs k seg) ≡ map (λ (s : Seg). s.elem) segs
elems-set [] k seg h = refl
elems-set (first ∷ segs) zero seg h = ap (λ (e : ℕ). e ∷ map (λ (s : Seg). s.elem) segs) h.0
elems-set (first ∷ segs) (suc k) seg h = ap (λ (es : List ℕ). first.elem ∷ es) (elems-set segs k seg h)

-- a packet that holds the same, in the same order, with the same own elements
abbrev pub SamePacketHolds : List Seg → List Seg → Type 0
SamePacketHolds new segs =
    (holds_of_packet new ≡ holds_of_packet segs)
    × (map (λ s. s.elem) new ≡ map (λ (s : Seg). s.elem) segs)

-- A packet with another segment holds the same, where that segment does.
replaced_holds : (segs new : List Seg) (k : ℕ) (o : Option Seg) →
    ((seg : Seg) → o ≡ Some seg → SameHolds seg (get_or segs k no_seg)) →
    with_seg k segs o ≡ Some new → SamePacketHolds new segs
replaced_holds segs new k None h e = absurd cc
replaced_holds segs new k (Some seg) h e =
    let same = sym (some-is (set segs k seg) new e) in (
      ap holds_of_packet same ∙ holds-set segs k seg (h seg refl),
      ap (λ (s : List Seg). map (λ (x : Seg). x.elem) s) same
          ∙ elems-set segs k seg (h seg refl),
    )

-- Each change of lengths leaves each segment its element and base.
pub resized_holds : (change : Change) (segs new : List Seg) → resized change segs ≡ Some new → SamePacketHolds new segs
resized_holds (Append n) segs new e =
    let last = get_or segs (length segs - 1) no_seg in
    replaced_holds segs new (length segs - 1) (grown_behind n last) (λ seg f.
    chosen (nat_le n (last.buf_len - last.data_off - last.data_len)) seg
    (record last { data_len = last.data_len + n }) last f (refl, refl)) e
resized_holds (Prepend n) segs new e =
    let first = get_or segs 0 no_seg in
    replaced_holds segs new 0 (grown_in_front n first) (λ seg f.
    chosen (nat_le n first.data_off) seg
    (record first { data_off = first.data_off - n; data_len = first.data_len + n }) first f
    (refl, refl)) e
resized_holds (Adj n) segs new e =
    let first = get_or segs 0 no_seg in
    replaced_holds segs new 0 (cut_in_front n first) (λ seg f.
    chosen (nat_le n first.data_len) seg
    (record first { data_off = first.data_off + n; data_len = first.data_len - n }) first f
    (refl, refl)) e
resized_holds (Trim n) segs new e =
    let last = get_or segs (length segs - 1) no_seg in
    replaced_holds segs new (length segs - 1) (cut_behind n last) (λ seg f.
    chosen (nat_le n last.data_len) seg (record last { data_len = last.data_len - n }) last f
    (refl, refl)) e

-- each change alone
pub appended_holds : (n : ℕ) (segs new : List Seg) → appended n segs ≡ Some new → SamePacketHolds new segs
appended_holds n segs new e = resized_holds (Append n) segs new e

-- a prepend, as one of these changes
pub prepended_holds : (n : ℕ) (segs new : List Seg) → prepended n segs ≡ Some new → SamePacketHolds new segs
prepended_holds n segs new e = resized_holds (Prepend n) segs new e

-- an adj, as one of these changes
pub adjusted_holds : (n : ℕ) (segs new : List Seg) → adjusted n segs ≡ Some new → SamePacketHolds new segs
adjusted_holds n segs new e = resized_holds (Adj n) segs new e

-- a trim, as one of these changes
pub trimmed_holds : (n : ℕ) (segs new : List Seg) → trimmed n segs ≡ Some new → SamePacketHolds new segs
trimmed_holds n segs new e = resized_holds (Trim n) segs new e

-- a packet that is exchanged for one that holds the same
pub KeepsHolds-set : (m : Member) (slot : ℕ) (segs new : List Seg) → slot < length m.table →
    get_or m.table slot None ≡ Some segs → SamePacketHolds new segs →
    KeepsHolds m (record m { table = set m.table slot (Some new) })
KeepsHolds-set m slot segs new within there same = record {
  limits = refl;
  cache = refl;
  held =
      λ i. let t =
      rw there at (held_in-set m.table slot (Some new) i within) in omega
      (arith, t, ap (λ (es : List ℕ). bag es i) same.0);
  own =
      λ i. let t =
      rw there at (own_in-set m.table slot (Some new) i within) in omega
      (arith, t, ap (λ (es : List ℕ). bag es i) same.1);
}

-- what doesn't change keeps its holds
pub KeepsHolds-refl : (m : Member) → KeepsHolds m m
KeepsHolds-refl m = record { limits = refl; cache = refl; held = λ i. refl; own = λ i. refl }

-- packets that hold what they held stay a worker's own
pub own_kept : (guests : ℕ → ℕ) (m after : Member) (s : Side) → OwnWith guests m s → KeepsHolds m after →
    OwnWith guests after s
own_kept guests m after s own kept = record {
  limits = kept.limits ∙ own.limits;
  cached = λ i. own.cached i ∙ ap (λ (c : List ℕ). bag c i) (sym kept.cache);
  held = λ i. omega (arith, own.held i, kept.held i);
  headed = λ i. omega (arith, own.headed i, kept.own i);
}
