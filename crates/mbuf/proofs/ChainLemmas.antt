-- Two packets that become one.
use Rattle.std.proofs.Common.{◌≡◌, ◌≢◌, ℕ, suc, ◌+◌, ◌<◌, List, [], ◌∷◌, ◌++◌, length, length-set, take, get_or, set, get_or-set_same, get_or-set_other, map, Option, Some, None, true, Bool, refl, sym, ap, ◌∙◌, append_assoc, arith}
use Rattle.std.specs.Prelude.{IsSome}
use Rattle.std.proofs.Math.Seq.{take-suc}
use Rattle.std.proofs.lemmas.List.{get_or_default, map-append, set-set}
use Rattle.std.proofs.lemmas.Grind.{flat_map-append}
use Rattle.commons.specs.Bag.{bag}
use Rattle.commons.specs.declared.packet.Seg.{Seg}
use Rattle.commons.proofs.Bags.{bag-nil, bag-append}
use Rattle.mbuf.specs.inside.Kept.{shown, KeepsHolds}
use Rattle.commons.specs.Packets.{no_seg, holds_of_seg, holds_of_packet}
use Rattle.mbuf.specs.Members.{Member}
use Rattle.commons.proofs.PacketBags.{held_in-set, own_in-set}
use Rattle.mbuf.proofs.TableLemmas.{shown-free, shown-packet}

-- one segment more stands behind the head's
pub one_more : (old packets : List (List Seg)) (first second k : ℕ) (head tail : List Seg) →
    first < length old → second < length old → first ≢ second →
    packets ≡ set old first (get_or old first [] ++ take k (get_or old second [])) →
    head ≡ get_or packets first head → tail ≡ get_or packets second tail →
    k < length (get_or old second []) →
    set packets first (head ++ get_or tail k no_seg ∷ [])
    ≡ set old first (get_or old first [] ++ take (k + 1) (get_or old second []))
one_more old packets first second k head tail low high apart so_far at_head at_tail within =
    let a = get_or old first [] in
    let b = get_or old second [] in
    let e : k + 1 ≡ suc k = omega arith in
    let h : head ≡ a ++ take k b =
    at_head ∙ ap (λ (p : List (List Seg)). get_or p first head) so_far
    ∙ get_or-set_same old first (a ++ take k b) head low in
    let t : tail ≡ b =
    at_tail ∙ ap (λ (p : List (List Seg)). get_or p second tail) so_far
    ∙ get_or-set_other old first second (a ++ take k b) tail (λ s. apart (sym s))
    ∙ get_or_default old second tail [] high in
    let more : head ++ get_or tail k no_seg ∷ [] ≡ a ++ take (k + 1) b =
    ap (λ (s : List Seg). s ++ get_or tail k no_seg ∷ []) h
    ∙ ap (λ (s : List Seg). (a ++ take k b) ++ get_or s k no_seg ∷ []) t
    ∙ append_assoc a (take k b) (get_or b k no_seg ∷ [])
    ∙ ap (λ (s : List Seg). a ++ s) (sym (take-suc b k no_seg within) ∙ ap (λ (n : ℕ). take n b) (sym e)) in
    ap (λ (s : List Seg). set packets first s) more
    ∙ ap (λ (p : List (List Seg)). set p first (a ++ take (k + 1) b)) so_far
    ∙ set-set old first (a ++ take k b) (a ++ take (k + 1) b)

-- what the table shows of two packets that were chained
pub shown_chained : (flags : List Bool) (packets : List (List Seg)) (first second : ℕ)
    (segs : List Seg) → first < length flags → length packets ≡ length flags →
    IsSome (get_or (shown flags packets) first None) →
    shown (set flags second true) (set packets first segs)
    ≡ set (set (shown flags packets) first (Some segs)) second None
shown_chained flags packets first second segs within e some =
    shown-free flags (set packets first segs) second (length-set packets first segs ∙ e)
    ∙ ap (λ (t : List (Option (List Seg))). set t second None) (shown-packet flags packets first segs within e some)

-- two packets that become one hold what they held
pub KeepsHolds-chain : (m : Member) (head tail : ℕ) (first second : List Seg) →
    head < length m.table → tail < length m.table → head ≢ tail →
    get_or m.table head None ≡ Some first → get_or m.table tail None ≡ Some second →
    KeepsHolds m (record m { table = set (set m.table head (Some (first ++ second))) tail None })
KeepsHolds-chain m head tail first second low high apart at_head at_tail =
    let joined = set m.table head (Some (first ++ second)) in
    let other : get_or joined tail None ≡ Some second =
    get_or-set_other m.table head tail (Some (first ++ second)) None (λ s. apart (sym s))
    ∙ at_tail in
    let bound : tail < length joined = omega (arith, high, length-set m.table head (Some (first ++ second))) in
    record {
      limits = refl;
      cache = refl;
      held = λ i.
          let t = rw at_head at (held_in-set m.table head (Some (first ++ second)) i low) in
          let u = rw other at (held_in-set joined tail None i bound) in
          let both = ap (λ (es : List ℕ). bag es i) (flat_map-append holds_of_seg first second) in
          omega (arith, t, u, both, bag-append (holds_of_packet first) (holds_of_packet second) i, bag-nil i);
      own = λ i.
          let t = rw at_head at (own_in-set m.table head (Some (first ++ second)) i low) in
          let u = rw other at (own_in-set joined tail None i bound) in
          let both = ap (λ (es : List ℕ). bag es i) (map-append (λ (s : Seg). s.elem) first second) in
          omega (
            arith,
            t,
            u,
            both,
            bag-append (map (λ (s : Seg). s.elem) first) (map (λ (s : Seg). s.elem) second) i,
            bag-nil i,
          );
    }
