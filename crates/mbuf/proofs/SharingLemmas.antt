-- What calls on shared buffers find in the table, and what of it stays a worker's own.
use Rattle.std.proofs.Common.{◌≡◌, ℕ, ◌+◌, ◌<◌, ◌≤◌, Bool, true, false, List, [], ◌∷◌, length, drop, map, get_or, set, Option, Some, None, Ok, Err, refl, sym, ap, ◌∙◌, arith}
use Rattle.commons.proofs.Sames.{ok-is}
use Rattle.commons.specs.Bag.{bag, one}
use Rattle.commons.specs.Calls.{Side}
use Rattle.commons.specs.declared.packet.Seg.{Seg}
use Rattle.commons.specs.declared.refusal.Refusal.TheVariants.{TooManySegs}
use Rattle.commons.proofs.Bags.{bag-nil, bag-append, bag-single, one-same}
use Rattle.mbuf.specs.inside.Cloning.{ArePair, IsIndirect}
use Rattle.commons.specs.Packets.{hold_of, holds_in_slot, holds_of_packet, holds_of_seg, held_in, own_in}
use Rattle.mbuf.specs.Members.{Member}
use Rattle.mbuf.specs.Own.{OwnWith}
use Rattle.mbuf.specs.PacketRules.{fresh_seg, free_slot}
use Rattle.mbuf.specs.Sharing.{attachable, attached, buffer_of, detachable, first_seg, if_alone, if_direct, if_indirect}
use Rattle.mbuf.proofs.CloneLemmas.{buffer_held}
use Rattle.commons.proofs.PacketBags.{held_in-set, held_in-slot, own_in-set, own_in-held, stands_within}
use Rattle.mbuf.proofs.OwnLemmas.{own_headed, free_slot-is}

-- ---- what is found

-- two packets that aren't one
two_there : (a b : Option (List Seg)) (same : Bool) (segs target : List Seg) → a ≡ Some segs →
    b ≡ Some target → same ≡ false → attachable a b same ≡ if_alone segs target
two_there a b same segs target e f g = rw (e, f, g) refl

-- a packet of several segments can't be attached
many_segs : (segs target : List Seg) → 1 < length segs → if_alone segs target ≡ Err TooManySegs
many_segs [] target many = absurd (omega (arith, many))
many_segs (seg ∷ []) target many = absurd (omega (arith, many))
many_segs (seg ∷ (other ∷ segs)) target many = refl

-- a packet of one segment is attached if it is direct
alone_is : (segs target : List Seg) (base : Option ℕ) → 1 ≤ length segs → length segs ≤ 1 →
    1 ≤ length target → (first_seg segs).base ≡ base →
    if_alone segs target ≡ if_direct base (first_seg segs).elem (first_seg target)
alone_is [] target base some few first h = absurd (omega (arith, some))
alone_is (seg ∷ []) [] base some few first h = absurd (omega (arith, first))
alone_is (seg ∷ []) (one ∷ others) base some few first h = ap (λ (o : Option ℕ). if_direct o seg.elem one) h
alone_is (seg ∷ (other ∷ segs)) target base some few first h = absurd (omega (arith, few))

-- nor can it by what is in two slots that differ
pub several_segs : (a b : Option (List Seg)) (same : Bool) (segs target : List Seg) →
    a ≡ Some segs → b ≡ Some target → same ≡ false → 1 < length segs →
    attachable a b same ≡ Err TooManySegs
several_segs a b same segs target e f g many = two_there a b same segs target e f g ∙ many_segs segs target many

-- by what is in two slots that differ, a packet of one segment is attached if it is direct
pub one_seg : (a b : Option (List Seg)) (same : Bool) (segs target : List Seg) (base : Option ℕ) →
    a ≡ Some segs → b ≡ Some target → same ≡ false → 1 ≤ length segs → length segs ≤ 1 →
    1 ≤ length target → (first_seg segs).base ≡ base →
    attachable a b same ≡ if_direct base (first_seg segs).elem (first_seg target)
one_seg a b same segs target base e f g some few first h =
    two_there a b same segs target e f g ∙ alone_is segs target base some few first h

-- a packet of several segments can't be detached
pub several_there : (a : Option (List Seg)) (segs : List Seg) → a ≡ Some segs → 1 < length segs →
    detachable a ≡ Err TooManySegs
several_there a [] e many = absurd (omega (arith, many))
several_there a (seg ∷ []) e many = absurd (omega (arith, many))
several_there a (seg ∷ (other ∷ segs)) e many = rw e refl

-- a packet of one segment is detached if it is indirect
pub one_there : (a : Option (List Seg)) (segs : List Seg) (base : Option ℕ) → a ≡ Some segs →
    1 ≤ length segs → length segs ≤ 1 → (first_seg segs).base ≡ base →
    detachable a ≡ if_indirect base (first_seg segs).elem
one_there a [] base e some few h = absurd (omega (arith, some))
one_there a (seg ∷ []) base e some few h = rw e (ap (λ (o : Option ℕ). if_indirect o seg.elem) h)
one_there a (seg ∷ (other ∷ segs)) base e some few h = absurd (omega (arith, few))

-- what was found stands there
-- a packet of one direct segment, and another's first segment
pub record Found (one other : Option (List Seg)) (e : ℕ) (target : Seg) : Type 0 where
  pub own : Seg
  pub others : List Seg
  pub here : one ≡ Some (own ∷ [])
  pub elem : own.elem ≡ e
  pub direct : own.base ≡ None
  pub there : other ≡ Some (target ∷ others)

-- a pair is found only where the segment is direct
found_direct : (base : Option ℕ) (own first : Seg) (others : List Seg)
    (one other : Option (List Seg)) (e : ℕ) (target : Seg) → own.base ≡ base →
    one ≡ Some (own ∷ []) → other ≡ Some (first ∷ others) →
    if_direct base own.elem first ≡ Ok (e, target) → Found one other e target
found_direct None own first others one other e target b h k f =
    let p = ok-is (own.elem, first) (e, target) f in
    record {
      own = own;
      others = others;
      here = h;
      elem = ap (λ (x : ℕ × Seg). x.0) p;
      direct = b;
      there = k ∙ ap (λ (x : ℕ × Seg). Some (x.1 ∷ others)) p;
    }
found_direct (Some base) own first others one other e target b h k f = absurd cc

-- a pair is found only where the packet that is attached has one segment
found_alone : (segs targets : List Seg) (e : ℕ) (target : Seg) →
    if_alone segs targets ≡ Ok (e, target) → Found (Some segs) (Some targets) e target
found_alone [] targets e target f = absurd cc
found_alone (seg ∷ []) [] e target f = absurd cc
found_alone (seg ∷ []) (first ∷ others) e target f =
    found_direct seg.base seg first others (Some (seg ∷ [])) (Some (first ∷ others)) e target refl
    refl refl f
found_alone (seg ∷ (other ∷ segs)) targets e target f = absurd cc

-- a pair is found only where packets stand in both slots, which differ
pub found_pair : (one other : Option (List Seg)) (same : Bool) (e : ℕ) (target : Seg) →
    attachable one other same ≡ Ok (e, target) → Found one other e target
found_pair None other same e target f = absurd cc
found_pair (Some segs) None same e target f = absurd cc
found_pair (Some segs) (Some targets) true e target f = absurd cc
found_pair (Some segs) (Some targets) false e target f = found_alone segs targets e target f

-- a packet of one indirect segment
pub record FoundBase (one : Option (List Seg)) (e base : ℕ) : Type 0 where
  pub own : Seg
  pub here : one ≡ Some (own ∷ [])
  pub elem : own.elem ≡ e
  pub base_is : own.base ≡ Some base

-- a base is found only where the segment is indirect
found_indirect : (b : Option ℕ) (own : Seg) (e base : ℕ) → own.base ≡ b →
    if_indirect b own.elem ≡ Ok (e, base) → FoundBase (Some (own ∷ [])) e base
found_indirect None own e base h f = absurd cc
found_indirect (Some x) own e base h f =
    let p = ok-is (own.elem, x) (e, base) f in
    record { own = own; here = refl; elem = ap (λ (y : ℕ × ℕ). y.0) p; base_is = h ∙ ap (λ (y : ℕ × ℕ). Some y.1) p }

-- a base is found only where the packet in the slot has one segment
pub found_base : (one : Option (List Seg)) (e base : ℕ) → detachable one ≡ Ok (e, base) → FoundBase one e base
found_base None e base f = absurd cc
found_base (Some []) e base f = absurd cc
found_base (Some (seg ∷ [])) e base f = found_indirect seg.base seg e base refl f
found_base (Some (seg ∷ (other ∷ segs))) e base f = absurd cc

-- a packet begins with its first segment, and one of a single segment has no other
pub begins : (segs : List Seg) → 1 ≤ length segs → segs ≡ first_seg segs ∷ drop 1 segs
begins [] some = absurd (omega (arith, some))
begins (seg ∷ segs) some = refl

-- a packet of a single segment has no other
pub single_seg : (segs : List Seg) → 1 ≤ length segs → length segs ≤ 1 → segs ≡ first_seg segs ∷ []
single_seg [] some few = absurd (omega (arith, some))
single_seg (seg ∷ []) some few = refl
single_seg (seg ∷ (other ∷ segs)) some few = absurd (omega (arith, few))

-- ---- what is held

-- what a packet holds that stands in a slot is held
pub in_slot_held : (guests : ℕ → ℕ) (m : Member) (s : Side) (slot : ℕ) (segs : List Seg) (i : ℕ) →
    OwnWith guests m s →
    get_or m.table slot None ≡ Some segs → bag (holds_of_packet segs) i ≤ s.holds i
in_slot_held guests m s slot segs i own there =
    omega (
      arith,
      own.held i,
      held_in-slot m.table slot i (stands_within m.table slot segs there),
      ap (λ (o : Option (List Seg)). bag (holds_in_slot o) i) there,
    )

-- the holds of a packet of one segment
pub holds_alone : (base : Option ℕ) (seg : Seg) (i : ℕ) → seg.base ≡ base →
    bag (holds_of_packet (seg ∷ [])) i ≡ bag (hold_of base) i + one seg.elem i
holds_alone base seg i e =
    omega (
      arith,
      bag-append (holds_of_seg seg) [] i,
      bag-append (hold_of seg.base) (seg.elem ∷ []) i,
      bag-nil i,
      bag-single seg.elem i,
      ap (λ (o : Option ℕ). bag (hold_of o) i) e,
    )

-- a packet holds its first segment's element
pub first_held : (segs : List Seg) → 1 ≤ length segs → 0 < bag (holds_of_packet segs) (first_seg segs).elem
first_held [] some = absurd (omega (arith, some))
first_held (seg ∷ segs) some =
    omega (
      arith,
      bag-append (holds_of_seg seg) (holds_of_packet segs) seg.elem,
      bag-append (hold_of seg.base) (seg.elem ∷ []) seg.elem,
      bag-single seg.elem seg.elem,
      one-same seg.elem,
    )

-- the element of a pair is held, and so is the buffer that it is to share
pub pair_held : (guests : ℕ → ℕ) (m : Member) (s : Side) (mi target : ℕ) (pair : ℕ × Seg) →
    OwnWith guests m s →
    ArePair m.table mi target pair → (0 < s.holds pair.0) × (0 < s.holds (buffer_of pair.1))
pair_held guests m s mi target pair own are = (
  omega (
    arith,
    in_slot_held guests m s mi (are.own ∷ []) pair.0 own are.here,
    holds_alone None are.own pair.0 are.direct,
    ap (λ (e : ℕ). one e pair.0) are.elem,
    one-same pair.0,
  ),
  omega (
    arith,
    in_slot_held guests m s target (pair.1 ∷ are.others) (buffer_of pair.1) own are.there,
    buffer_held (pair.1 ∷ are.others) 0 pair.1 (omega arith),
  ),
)

-- the base of an indirect segment is held
pub base_held : (guests : ℕ → ℕ) (m : Member) (s : Side) (slot : ℕ) (pair : ℕ × ℕ) →
    OwnWith guests m s →
    IsIndirect m.table slot pair → 0 < s.holds pair.1
base_held guests m s slot pair own is =
    omega (
      arith,
      in_slot_held guests m s slot (is.own ∷ []) pair.1 own is.here,
      holds_alone (Some pair.1) is.own pair.1 is.base,
      bag-single pair.1 pair.1,
      one-same pair.1,
    )

-- ---- what stays a worker's own

-- a packet that is attached
pub own_attached : (guests : ℕ → ℕ) (m : Member) (s0 s1 : Side) (mi target : ℕ) (pair : ℕ × Seg) (new : Seg) →
    OwnWith guests m s0 → s1.limits ≡ s0.limits → ArePair m.table mi target pair →
    new ≡ attached pair.0 pair.1 →
    ((i : ℕ) → s1.hand i ≡ s0.hand i) →
    ((i : ℕ) → s1.holds i ≡ s0.holds i + one (buffer_of pair.1) i) → s1.headers ≡ s0.headers →
    OwnWith guests (record m { table = set m.table mi (Some (new ∷ [])) }) s1
own_attached guests m s0 s1 mi target pair new own same are is hand holds headers =
    let within = stands_within m.table mi (are.own ∷ []) are.here in
    record {
      limits = own.limits ∙ sym same;
      cached = λ i. hand i ∙ own.cached i;
      held = λ i. rw is (
          let t = rw are.here at (held_in-set m.table mi (Some (attached pair.0 pair.1 ∷ [])) i within) in
          omega (
            arith,
            t,
            holds i,
            own.held i,
            holds_alone None are.own i are.direct,
            holds_alone (Some (buffer_of pair.1)) (attached pair.0 pair.1) i refl,
            bag-nil i,
            bag-single (buffer_of pair.1) i,
            ap (λ (e : ℕ). one e i) are.elem,
          ));
      headed = λ i. rw is (
          let t = rw are.here at (own_in-set m.table mi (Some (attached pair.0 pair.1 ∷ [])) i within) in
          omega (arith, t, own.headed i, ap (λ (f : ℕ → ℕ). f i) headers, ap (λ (e : ℕ). bag (e ∷ []) i) are.elem));
    }

-- packets stay a worker's own where one of them gets its own buffer back
pub own_detached : (guests : ℕ → ℕ) (m : Member) (s0 s1 : Side) (cache : List ℕ) (slot : ℕ) (pair : ℕ × ℕ) →
    OwnWith guests m s0 → s1.limits ≡ s0.limits → IsIndirect m.table slot pair →
    ((i : ℕ) → s1.hand i ≡ bag cache i) → ((i : ℕ) → s0.holds i ≡ s1.holds i + one pair.1 i) →
    ((i : ℕ) → 0 < s1.holds i → s1.headers i ≡ s0.headers i) →
    OwnWith guests (record m { cache = cache; table = set m.table slot (Some (fresh_seg m.limits pair.0 ∷ [])) }) s1
own_detached guests m s0 s1 cache slot pair own same is hand holds headers =
    let within = stands_within m.table slot (is.own ∷ []) is.here in
    let new = set m.table slot (Some (fresh_seg m.limits pair.0 ∷ [])) in
    let left : (i : ℕ) → s1.holds i ≡ held_in new i + guests i = λ i.
    let t = rw is.here at (held_in-set m.table slot (Some (fresh_seg m.limits pair.0 ∷ [])) i within) in
    omega (
      arith,
      t,
      holds i,
      own.held i,
      holds_alone (Some pair.1) is.own i is.base,
      holds_alone None (fresh_seg m.limits pair.0) i refl,
      bag-nil i,
      bag-single pair.1 i,
      ap (λ (e : ℕ). one e i) is.elem,
    ) in
    let same_own : (i : ℕ) → own_in new i ≤ own_in m.table i = λ i.
    let t = rw is.here at (own_in-set m.table slot (Some (fresh_seg m.limits pair.0 ∷ [])) i within) in
    omega (arith, t, ap (λ (e : ℕ). bag (e ∷ []) i) is.elem) in
    record {
      limits = own.limits ∙ sym same;
      cached = hand;
      held = left;
      headed =
          λ i.
          own_headed (own_in new i) (own_in m.table i) (held_in new i) (guests i) (s1.holds i) (s1.headers i)
          (s0.headers i) (same_own i) (own.headed i) (own_in-held new i) (left i) (headers i);
    }

-- a clone that stands in the lowest free slot
pub own_cloned : (guests : ℕ → ℕ) (m : Member) (s0 s1 : Side) (cache : List ℕ) (slot : ℕ) (new : List Seg) →
    OwnWith guests m s0 → s1.limits ≡ s0.limits → free_slot m.table ≡ Some slot →
    ((i : ℕ) → s1.hand i ≡ bag cache i) →
    ((i : ℕ) → s1.holds i ≡ s0.holds i + bag (holds_of_packet new) i) →
    ((i : ℕ) → s1.headers i ≡ s0.headers i + bag (map (λ seg. seg.elem) new) i) →
    OwnWith guests (record m { cache = cache; table = set m.table slot (Some new) }) s1
own_cloned guests m s0 s1 cache slot new own same free hand holds headers =
    let empty = free_slot-is m.table slot free in
    record {
      limits = own.limits ∙ sym same;
      cached = hand;
      held =
          λ i. let t =
          rw empty.1 at (held_in-set m.table slot (Some new) i empty.0) in omega
          (arith, t, holds i, own.held i, bag-nil i);
      headed =
          λ i. let t =
          rw empty.1 at (own_in-set m.table slot (Some new) i empty.0) in omega
          (arith, t, headers i, own.headed i, bag-nil i);
    }

-- packets stay a worker's own where a clone was given up
pub own_given_up : (guests : ℕ → ℕ) (m : Member) (s0 s1 : Side) (cache : List ℕ) →
    OwnWith guests m s0 → s1.limits ≡ s0.limits →
    ((i : ℕ) → s1.hand i ≡ bag cache i) → ((i : ℕ) → s1.holds i ≡ s0.holds i) →
    ((i : ℕ) → s1.headers i ≡ s0.headers i) → OwnWith guests (record m { cache = cache }) s1
own_given_up guests m s0 s1 cache own same hand holds headers = record {
  limits = own.limits ∙ sym same;
  cached = hand;
  held = λ i. holds i ∙ own.held i;
  headed = λ i. omega (arith, own.headed i, headers i);
}
