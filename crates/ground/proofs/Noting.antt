-- What is noted of a packet, segment by segment.
use Rattle.std.proofs.Common.{◌≡◌, ℕ, ◌+◌, ◌<◌, List, [], ◌∷◌, ◌++◌, Option, Some, get_or, length, take, sym, ◌∙◌, subst, append_assoc, arith}
use Rattle.std.proofs.lemmas.List.{map_more}
use Rattle.commons.specs.Bag.{bag}
use Rattle.commons.specs.Packets.{hold_of, holds_of_seg, holds_of_packet, own_of_packet}
use Rattle.commons.specs.declared.packet.Seg.{Seg}
use Rattle.commons.proofs.PacketBags.{bag-holds_suc, holds-suc, holds_so_far}
use Rattle.step_core.proofs.Bags.{times-append, times-one}
use Rattle.ground.specs.Layout.{AreLinked, link_word}
use Rattle.ground.specs.Parting.{parcel_of, with_seg}

-- the word of a base's link is one of the table, where those of what its segment holds are
pub base_linked : (base : Option ℕ) (element word words : ℕ) → base ≡ Some element → word ≡ link_word element →
    AreLinked words (hold_of base) → word < words
base_linked base element word words is at all =
    let there : 0 < bag (hold_of base) element =
    subst (λ (b : Option ℕ). 0 < bag (hold_of b) element) (sym is) (omega (arith, times-one element)) in
    let within = all element there in
    omega arith

-- so are those of what a segment holds: of its base, and of its own element
pub bases_linked : (seg : Seg) (words : ℕ) → AreLinked words (holds_of_seg seg) → AreLinked words (hold_of seg.base)
bases_linked seg words all i there = all i (omega (arith, times-append i (hold_of seg.base) (seg.elem ∷ [])))

pub own_linked : (seg : Seg) (word words : ℕ) → word ≡ link_word seg.elem → AreLinked words (holds_of_seg seg) →
    word < words
own_linked seg word words at all =
    let within =
    all seg.elem (omega (arith, times-append seg.elem (hold_of seg.base) (seg.elem ∷ []), times-one seg.elem)) in
    omega arith

-- and those of each segment of a packet
pub seg_linked : (segs : List Seg) (k : ℕ) (d : Seg) (words : ℕ) → k < length segs →
    AreLinked words (holds_of_packet segs) → AreLinked words (holds_of_seg (get_or segs k d))
seg_linked segs k d words inside all i there =
    all i
    (let more = bag-holds_suc segs k i d inside in
    let few = holds_so_far segs (k + 1) i in
    omega arith)

-- a segment more is noted behind those before it
pub one_noted : (segs : List Seg) (k : ℕ) (d : Seg) → k < length segs →
    with_seg (get_or segs k d) (parcel_of (take k segs)) ≡ parcel_of (take (k + 1) segs)
one_noted segs k d inside = λ i. record { holds = holds i; own = own i }
  where
    holds : (holds_of_packet (take k segs) ++ hold_of (get_or segs k d).base) ++ (get_or segs k d).elem ∷ []
        ≡ holds_of_packet (take (k + 1) segs)
    holds =
        append_assoc (holds_of_packet (take k segs)) (hold_of (get_or segs k d).base) ((get_or segs k d).elem ∷ [])
        ∙ sym (holds-suc segs k d inside)

    own : own_of_packet (take k segs) ++ (get_or segs k d).elem ∷ [] ≡ own_of_packet (take (k + 1) segs)
    own = sym (map_more (λ (s : Seg). s.elem) segs k d inside)
