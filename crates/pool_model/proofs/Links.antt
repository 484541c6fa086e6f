-- How often packets have an element as a base, and how often as the own element of a segment that
-- has a base.
use Rattle.std.proofs.Common.{ℕ, zero, suc, ◌≡◌, ◌+◌, ◌-◌, ◌<◌, ◌≤◌, inl, inr, Bool, true, false, cond, nat_le, List, [], ◌∷◌, ◌++◌, length, get_or, set, take, replicate, Option, Some, None, refl, sym, ap, ◌∙◌, arith}
use Rattle.std.specs.Prelude.{is_none, sum_by}
use Rattle.std.specs.List.{Contains, position_or_len}
use Rattle.std.proofs.lemmas.Bool.{cases_lt}
use Rattle.std.proofs.lemmas.List.Folds.{sum_by-replicate}
use Rattle.std.proofs.lemmas.List.Sums.{get_or-le-sum_by, sum_by-append, sum_by-cons, sum_by-set}
use Rattle.commons.specs.Bag.{bag, one}
use Rattle.commons.specs.declared.limits.Limits.{Limits}
use Rattle.commons.specs.declared.packet.Seg.{Seg}
use Rattle.commons.specs.Packets.{no_seg, hold_of, holds_of_seg, holds_of_packet, own_of_packet, holds_in_slot, own_in_slot, held_in, own_in}
use Rattle.commons.proofs.Bags.{bag-nil, bag-append, bag-cons, bag-single, one-same}
use Rattle.commons.proofs.PacketBags.{held_in-set, own_in-held}
use Rattle.commons.proofs.Sames.{some-is}
use Rattle.mbuf.specs.Lengths.{with_seg, appended, prepended, adjusted, trimmed}
use Rattle.mbuf.specs.PacketRules.{fresh_seg, free_slots, stood}
use Rattle.mbuf.specs.Sharing.{attached, buffer_of}
use Rattle.mbuf.proofs.FreeLemmas.{first_free, taken_first}
use Rattle.mbuf.proofs.OwnLemmas.{free_slot-is}

-- an element, where it has a base
abbrev pub indirect_one : Option ℕ → ℕ → ℕ → ℕ
indirect_one None e i = 0
indirect_one (Some base) e i = one e i

abbrev pub indirect_seg : Seg → ℕ → ℕ
indirect_seg seg i = indirect_one seg.base seg.elem i

abbrev pub based_packet : List Seg → ℕ → ℕ
based_packet segs i = sum_by (λ seg. bag (hold_of seg.base) i) segs

abbrev pub indirect_packet : List Seg → ℕ → ℕ
indirect_packet segs i = sum_by (λ seg. indirect_seg seg i) segs

-- how often the packet in a slot has an element as a base
abbrev pub based_slot : Option (List Seg) → ℕ → ℕ
based_slot None i = 0
based_slot (Some segs) i = based_packet segs i

-- how often the packet in a slot has it as the own element of an indirect segment
abbrev pub indirect_slot : Option (List Seg) → ℕ → ℕ
indirect_slot None i = 0
indirect_slot (Some segs) i = indirect_packet segs i

abbrev pub based_in : List (Option (List Seg)) → ℕ → ℕ
based_in table i = sum_by (λ slot. based_slot slot i) table

abbrev pub indirect_in : List (Option (List Seg)) → ℕ → ℕ
indirect_in table i = sum_by (λ slot. indirect_slot slot i) table

-- ---- holds are of bases and of own elements

-- a segment holds its own element, and its base where it has one
pub packet_split : (segs : List Seg) (i : ℕ) →
    bag (holds_of_packet segs) i ≡ based_packet segs i + bag (own_of_packet segs) i
packet_split [] i = omega (arith, bag-nil i)
packet_split (seg ∷ segs) i = omega (
  arith,
  packet_split segs i,
  sum_by-cons (λ (s : Seg). bag (hold_of s.base) i) seg segs,
  bag-append (holds_of_seg seg) (holds_of_packet segs) i,
  bag-append (hold_of seg.base) (seg.elem ∷ []) i,
  bag-single seg.elem i,
  bag-cons seg.elem (own_of_packet segs) i,
)

-- what a slot holds are its packet's bases and own elements, and an empty one holds nothing
slot_split : (slot : Option (List Seg)) (i : ℕ) →
    bag (holds_in_slot slot) i ≡ based_slot slot i + bag (own_in_slot slot) i
slot_split None i = omega (arith, bag-nil i)
slot_split (Some segs) i = packet_split segs i

-- all holds of a table are of bases and of own elements
pub held_split : (table : List (Option (List Seg))) (i : ℕ) → held_in table i ≡ based_in table i + own_in table i
held_split [] i = refl
held_split (slot ∷ table) i = omega (
  arith,
  held_split table i,
  slot_split slot i,
  sum_by-cons (λ (s : Option (List Seg)). bag (holds_in_slot s) i) slot table,
  sum_by-cons (λ (s : Option (List Seg)). based_slot s i) slot table,
  sum_by-cons (λ (s : Option (List Seg)). bag (own_in_slot s) i) slot table,
)

-- an indirect segment's element is an own one
indirect-own : (base : Option ℕ) (e i : ℕ) → indirect_one base e i ≤ one e i
indirect-own None e i = omega arith
indirect-own (Some base) e i = omega arith

-- each indirect segment's element is an own one of its packet
pub packet-own : (segs : List Seg) (i : ℕ) → indirect_packet segs i ≤ bag (own_of_packet segs) i
packet-own [] i = omega arith
packet-own (seg ∷ segs) i =
    omega (
      arith,
      packet-own segs i,
      indirect-own seg.base seg.elem i,
      sum_by-cons (λ (s : Seg). indirect_seg s i) seg segs,
      bag-cons seg.elem (own_of_packet segs) i,
    )

-- an element is that of indirect segments in a slot no more often than it is an own one there
slot-own : (slot : Option (List Seg)) (i : ℕ) → indirect_slot slot i ≤ bag (own_in_slot slot) i
slot-own None i = omega arith
slot-own (Some segs) i = packet-own segs i

-- in a table no element is an indirect segment's more often than it is an own one
pub indirect_in-own : (table : List (Option (List Seg))) (i : ℕ) → indirect_in table i ≤ own_in table i
indirect_in-own [] i = omega arith
indirect_in-own (slot ∷ table) i = omega (
  arith,
  indirect_in-own table i,
  slot-own slot i,
  sum_by-cons (λ (s : Option (List Seg)). indirect_slot s i) slot table,
  sum_by-cons (λ (s : Option (List Seg)). bag (own_in_slot s) i) slot table,
)

-- ---- a slot with other contents

-- the bases of a slot's packet go with it, and those of the new packet come
pub based_in-set : (table : List (Option (List Seg))) (k : ℕ) (new : Option (List Seg)) (i : ℕ) → k < length table →
    based_in (set table k new) i + based_slot (get_or table k None) i ≡ based_in table i + based_slot new i
based_in-set table k new i l = sum_by-set (λ (slot : Option (List Seg)). based_slot slot i) table k new None l

-- the indirect segments of a slot's packet go with it, and those of the new packet come
pub indirect_in-set : (table : List (Option (List Seg))) (k : ℕ) (new : Option (List Seg)) (i : ℕ) → k < length table →
    indirect_in (set table k new) i + indirect_slot (get_or table k None) i ≡ indirect_in table i + indirect_slot new i
indirect_in-set table k new i l = sum_by-set (λ (slot : Option (List Seg)). indirect_slot slot i) table k new None l

-- nothing is based on, or indirect, where nothing stands
pub based_in-empty : (n i : ℕ) → based_in (replicate n None) i ≡ 0
based_in-empty n i = sum_by-replicate (λ (slot : Option (List Seg)). based_slot slot i) n None ∙ omega arith

-- a packet of one segment uses that segment's base, where it has one
pub based_alone : (base : Option ℕ) (seg : Seg) (i : ℕ) → seg.base ≡ base →
    based_packet (seg ∷ []) i ≡ bag (hold_of base) i
based_alone base seg i e =
    omega (
      arith,
      sum_by-cons (λ (s : Seg). bag (hold_of s.base) i) seg [],
      ap (λ (o : Option ℕ). bag (hold_of o) i) e,
    )

-- a packet of one segment has its element as an indirect one's just where it has a base
pub indirect_alone : (base : Option ℕ) (seg : Seg) (i : ℕ) → seg.base ≡ base →
    indirect_packet (seg ∷ []) i ≡ indirect_one base seg.elem i
indirect_alone base seg i e =
    omega (
      arith,
      sum_by-cons (λ (s : Seg). indirect_seg s i) seg [],
      ap (λ (o : Option ℕ). indirect_one o seg.elem i) e,
    )

-- fresh packets add nothing
fresh_based : (l : Limits) (e i : ℕ) → based_packet (fresh_seg l e ∷ []) i ≡ 0
fresh_based l e i = omega (arith, based_alone None (fresh_seg l e) i refl, bag-nil i)

-- a fresh packet has no base, so it adds neither a base nor an indirect segment
pub fresh_links : (l : Limits) (e i : ℕ) →
    (based_packet (fresh_seg l e ∷ []) i ≡ 0) × (indirect_packet (fresh_seg l e ∷ []) i ≡ 0)
fresh_links l e i = (fresh_based l e i, indirect_alone None (fresh_seg l e) i refl)

-- fresh packets come into free slots, where nothing stood that had a base
pub stood_links : (l : Limits) (es : List ℕ) (table : List (Option (List Seg))) →
    length es ≤ length (free_slots table) → (i : ℕ) →
    let after = stood l es (take (length es) (free_slots table)) table in
    (based_in after i ≡ based_in table i) × (indirect_in after i ≡ indirect_in table i)
stood_links l [] table h i = (refl, refl)
stood_links l (e ∷ es) table h i =
    let slot = position_or_len is_none table in
    let free = first_free table (omega (arith, h)) in
    let empty = free_slot-is table slot free in
    let next = set table slot (Some (fresh_seg l e ∷ [])) in
    let slots = taken_first table slot (fresh_seg l e ∷ []) free in
    let rest = stood_links l es next (omega (arith, h, ap (λ (s : List ℕ). length s) slots)) i in
    let based = rw empty.1 at (based_in-set table slot (Some (fresh_seg l e ∷ [])) i empty.0) in
    let indirect = rw empty.1 at (indirect_in-set table slot (Some (fresh_seg l e ∷ [])) i empty.0) in
    let fresh = fresh_links l e i in
    rw slots (omega (arith, rest.0, based, fresh.0), omega (arith, rest.1, indirect, fresh.1))

-- ---- a change of lengths

-- a segment with the same element and the same base counts as the one in whose place it stands
indirect-set : (segs : List Seg) (k : ℕ) (seg : Seg) (i : ℕ) →
    (seg.elem ≡ (get_or segs k no_seg).elem) × (seg.base ≡ (get_or segs k no_seg).base) →
    indirect_packet (set segs k seg) i ≡ indirect_packet segs i
indirect-set [] k seg i h = refl
indirect-set (first ∷ segs) zero seg i h = omega (
  arith,
  sum_by-cons (λ (s : Seg). indirect_seg s i) seg segs,
  sum_by-cons (λ (s : Seg). indirect_seg s i) first segs,
  ap (λ (b : Option ℕ). indirect_one b seg.elem i) h.1,
  ap (λ (e : ℕ). indirect_one first.base e i) h.0,
)
indirect-set (first ∷ segs) (suc k) seg i h = omega (
  arith,
  sum_by-cons (λ (s : Seg). indirect_seg s i) first (set segs k seg),
  sum_by-cons (λ (s : Seg). indirect_seg s i) first segs,
  indirect-set segs k seg i h,
)

-- a packet that has the same segments but for their lengths
abbrev pub SameIndirect : List Seg → List Seg → Type 0
SameIndirect new segs = (i : ℕ) → indirect_packet new i ≡ indirect_packet segs i

-- a change of lengths writes one segment, and leaves its element and its base
changed_seg : (segs new : List Seg) (k : ℕ) (b : Bool) (seg : Seg) →
    (seg.elem ≡ (get_or segs k no_seg).elem) × (seg.base ≡ (get_or segs k no_seg).base) →
    with_seg k segs (cond b (Some seg) None) ≡ Some new → SameIndirect new segs
changed_seg segs new k false seg h e i = absurd cc
changed_seg segs new k true seg h e i =
    ap (λ (s : List Seg). indirect_packet s i) (sym (some-is (set segs k seg) new e))
    ∙ indirect-set segs k seg i h

-- an append writes the last segment's length alone
pub appended_indirect : (n : ℕ) (segs new : List Seg) → appended n segs ≡ Some new → SameIndirect new segs
appended_indirect n segs new e =
    let last = get_or segs (length segs - 1) no_seg in
    changed_seg segs new (length segs - 1) (nat_le n (last.buf_len - last.data_off - last.data_len))
    (record last { data_len = last.data_len + n }) (refl, refl) e

-- a prepend writes the first segment's offset and length alone
pub prepended_indirect : (n : ℕ) (segs new : List Seg) → prepended n segs ≡ Some new → SameIndirect new segs
prepended_indirect n segs new e =
    let first = get_or segs 0 no_seg in
    changed_seg segs new 0 (nat_le n first.data_off)
    (record first { data_off = first.data_off - n; data_len = first.data_len + n }) (refl, refl)
    e

-- an adj writes the first segment's offset and length alone
pub adjusted_indirect : (n : ℕ) (segs new : List Seg) → adjusted n segs ≡ Some new → SameIndirect new segs
adjusted_indirect n segs new e =
    let first = get_or segs 0 no_seg in
    changed_seg segs new 0 (nat_le n first.data_len)
    (record first { data_off = first.data_off + n; data_len = first.data_len - n }) (refl, refl)
    e

-- a trim writes the last segment's length alone
pub trimmed_indirect : (n : ℕ) (segs new : List Seg) → trimmed n segs ≡ Some new → SameIndirect new segs
trimmed_indirect n segs new e =
    let last = get_or segs (length segs - 1) no_seg in
    changed_seg segs new (length segs - 1) (nat_le n last.data_len)
    (record last { data_len = last.data_len - n }) (refl, refl) e

-- ---- buffers that segments use

-- the buffer that a segment uses is its base, or its own where it has none
buffer_seg : (base : Option ℕ) (seg : Seg) → seg.base ≡ base →
    indirect_seg seg (buffer_of seg)
    < bag (hold_of seg.base) (buffer_of seg) + one seg.elem (buffer_of seg)
buffer_seg None seg e = rw e (omega (arith, bag-nil seg.elem, one-same seg.elem))
buffer_seg (Some base) seg e = rw e (omega (arith, bag-single base base, one-same base))

-- a buffer that a segment uses is held more often than it is an indirect segment's own element
pub buffer_packet : (segs : List Seg) (k : ℕ) (d : Seg) → k < length segs →
    indirect_packet segs (buffer_of (get_or segs k d))
    < bag (holds_of_packet segs) (buffer_of (get_or segs k d))
buffer_packet [] k d within = absurd (omega (arith, within))
buffer_packet (seg ∷ segs) zero d within =
    let b = buffer_of seg in
    omega (
      arith,
      buffer_seg seg.base seg refl,
      packet-own segs b,
      packet_split segs b,
      packet_split (seg ∷ segs) b,
      sum_by-cons (λ (s : Seg). indirect_seg s b) seg segs,
      sum_by-cons (λ (s : Seg). bag (hold_of s.base) b) seg segs,
      bag-cons seg.elem (own_of_packet segs) b,
    )
buffer_packet (seg ∷ segs) (suc k) d within =
    let b = buffer_of (get_or segs k d) in
    omega (
      arith,
      buffer_packet segs k d (omega (arith, within)),
      indirect-own seg.base seg.elem b,
      packet_split segs b,
      packet_split (seg ∷ segs) b,
      sum_by-cons (λ (s : Seg). indirect_seg s b) seg segs,
      sum_by-cons (λ (s : Seg). bag (hold_of s.base) b) seg segs,
      bag-cons seg.elem (own_of_packet segs) b,
    )

-- an element that a packet holds more often than its indirect segments have it is also held more
-- often in the whole table
pub buffer_in : (table : List (Option (List Seg))) (slot i : ℕ) (segs : List Seg) →
    slot < length table → get_or table slot None ≡ Some segs →
    indirect_packet segs i < bag (holds_of_packet segs) i → indirect_in table i < held_in table i
buffer_in table slot i segs within there fewer =
    let indirect = rw there at (indirect_in-set table slot None i within) in
    let held = rw there at (held_in-set table slot None i within) in
    omega (
      arith,
      fewer,
      indirect,
      held,
      bag-nil i,
      indirect_in-own (set table slot None) i,
      own_in-held (set table slot None) i,
    )

-- a base that a segment of a packet has is one of the packet's bases
pub based_by_seg : (packet : List Seg) (seg : Seg) (base : ℕ) → Contains packet seg →
    seg.base ≡ Some base → 0 < based_packet packet base
based_by_seg packet seg base there e =
    let at = get_or-le-sum_by (λ (s : Seg). bag (hold_of s.base) base) packet there.0 seg there.1 in
    omega (
      arith,
      at,
      ap (λ (s : Seg). bag (hold_of s.base) base) there.2,
      ap (λ (o : Option ℕ). bag (hold_of o) base) e,
      bag-single base base,
      one-same base,
    )

-- a segment with a base, of a packet, is counted there at its own element
pub indirect_by_seg : (packet : List Seg) (seg : Seg) (base : ℕ) → Contains packet seg →
    seg.base ≡ Some base → 0 < indirect_packet packet seg.elem
indirect_by_seg packet seg base there e =
    let at = get_or-le-sum_by (λ (s : Seg). indirect_seg s seg.elem) packet there.0 seg there.1 in
    omega (
      arith,
      at,
      ap (λ (s : Seg). indirect_seg s seg.elem) there.2,
      ap (λ (o : Option ℕ). indirect_one o seg.elem seg.elem) e,
      one-same seg.elem,
    )

-- with one attached segment more a packet has that segment's buffer more as a base
pub based-more : (segs : List Seg) (e : ℕ) (seg : Seg) (i : ℕ) →
    based_packet (segs ++ attached e seg ∷ []) i ≡ based_packet segs i + one (buffer_of seg) i
based-more segs e seg i =
    omega (
      arith,
      sum_by-append (λ (s : Seg). bag (hold_of s.base) i) segs (attached e seg ∷ []),
      based_alone (Some (buffer_of seg)) (attached e seg) i refl,
      bag-single (buffer_of seg) i,
    )

-- What becomes of an element that packets have as a base so often, and so often as the own one of
-- a segment with a base: neither is more often so; or more often the first, of a buffer that a
-- segment used already; or the second, of one that is no base. Held is how often all packets hold
-- it, and own how often it is an own element of these.
pub data LinksAfter (held own based indirect more_based more_indirect : ℕ) : Type 0 where
  Fewer : more_based ≤ based → more_indirect ≤ indirect → LinksAfter held own based indirect more_based more_indirect
  NewBase : indirect < based + own → more_indirect ≤ indirect →
      LinksAfter held own based indirect more_based more_indirect
  NewIndirect : held ≤ own → more_based ≤ based → LinksAfter held own based indirect more_based more_indirect

-- what an act does to the links of one table it does to those of all, beside packets that stay
pub links_beside : (held own based indirect more_based more_indirect : ℕ)
    (own_stays based_stays indirect_stays : ℕ) → indirect_stays ≤ own_stays →
    LinksAfter held own based indirect more_based more_indirect →
    LinksAfter held (own + own_stays) (based + based_stays) (indirect + indirect_stays)
    (more_based + based_stays) (more_indirect + indirect_stays)
links_beside held own based indirect more_based more_indirect own_stays based_stays indirect_stays
    few (Fewer p q) =
    Fewer (omega (arith, p)) (omega (arith, q))
links_beside held own based indirect more_based more_indirect own_stays based_stays indirect_stays
    few (NewBase p q) =
    NewBase (omega (arith, p, few)) (omega (arith, q))
links_beside held own based indirect more_based more_indirect own_stays based_stays indirect_stays
    few (NewIndirect p q) =
    NewIndirect (omega (arith, p)) (omega (arith, q))

-- where an own element is in at most one segment of all packets, and a base is no indirect
-- segment's, so it is then
pub links_stay :
    (own_others based_others indirect_others held own based indirect more_based more_indirect : ℕ)
    → held ≡ based_others + based + (own_others + own) → own_others + own ≤ 1 →
    indirect_others ≤ own_others → indirect ≤ own →
    (0 < based_others + based → indirect_others + indirect ≡ 0) →
    LinksAfter held own based indirect more_based more_indirect →
    0 < based_others + more_based → indirect_others + more_indirect ≡ 0
links_stay own_others based_others indirect_others held own based indirect more_based more_indirect
    all once a b direct (Fewer p q) some =
    omega (arith, q, direct (omega (arith, p, some)))
links_stay own_others based_others indirect_others held own based indirect more_based more_indirect
    all once a b direct (NewBase p q) some =
    elim (cases_lt 0 based) [
      | inl here ↦ omega (arith, q, direct (omega (arith, here)))
      | inr none ↦ omega (arith, p, q, none, once, a, b)
    ]
links_stay own_others based_others indirect_others held own based indirect more_based more_indirect
    all once a b direct (NewIndirect p q) some =
    absurd (omega (arith, p, q, all, some))
