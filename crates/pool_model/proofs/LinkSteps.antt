-- What chains, attaches and clones do with bases and indirect segments.
use Rattle.std.proofs.Common.{ℕ, suc, ◌≡◌, ◌≢◌, ◌+◌, ◌<◌, ◌≤◌, ◌==◌, inl, inr, Bool, true, false, List, [], ◌∷◌, ◌++◌, length, length-set, get_or, get_or-set_other, set, Option, Some, None, Result, Ok, Err, refl, sym, ap, ◌∙◌, subst, arith}
use Rattle.std.specs.Prelude.{min, if◌then◌else◌}
use Rattle.std.proofs.lemmas.Bool.{cases_Bool, cases_eq, cases_lt}
use Rattle.std.proofs.lemmas.List.Sums.{sum_by-append}
use Rattle.commons.specs.Bag.{bag, one}
use Rattle.commons.specs.declared.limits.Limits.{Limits}
use Rattle.commons.specs.declared.packet.Seg.{Seg}
use Rattle.commons.specs.declared.refusal.Refusal.{Refusal}
use Rattle.commons.specs.declared.refusal.Refusal.TheVariants.{RefSpent}
use Rattle.commons.specs.Packets.{holds_of_packet, own_of_packet, holds_in_slot, own_in_slot, held_in, own_in}
use Rattle.commons.proofs.Bags.{bag-nil, bag-single, one-same}
use Rattle.commons.proofs.PacketBags.{held_in-set, held_in-slot, own_in-slot, stands_within}
use Rattle.commons.proofs.Places.{one-apart, one-is}
use Rattle.mbuf.specs.Sharing.{attachable, attached, buffer_of}
use Rattle.mbuf.proofs.CloneLemmas.{buffer_held}
use Rattle.mbuf.proofs.SharingLemmas.{Found, holds_alone}
use Rattle.pool_model.specs.Pool.{Shared}
use Rattle.pool_model.specs.CacheModel.{get}
use Rattle.pool_model.specs.SharingModel.{Cloned, clone_segs, give_up, with_element}
use Rattle.pool_model.proofs.Links.{LinksAfter, Fewer, NewBase, NewIndirect, based_in, indirect_in, based_packet, indirect_packet, indirect_seg, based_slot, indirect_slot, based_alone, based-more, buffer_in, buffer_packet, held_split, indirect_alone, indirect_in-set, packet-own}

-- where two packets of a table become one, the table has as many indirect segments of each element
pub chain_indirect : (table : List (Option (List Seg))) (head tail : ℕ) (first second : List Seg)
    (i : ℕ) → head < length table → tail < length table → head ≢ tail →
    get_or table head None ≡ Some first → get_or table tail None ≡ Some second →
    indirect_in (set (set table head (Some (first ++ second))) tail None) i ≡ indirect_in table i
chain_indirect table head tail first second i low high apart at_head at_tail =
    let joined = set table head (Some (first ++ second)) in
    let other : get_or joined tail None ≡ Some second =
    get_or-set_other table head tail (Some (first ++ second)) None (λ s. apart (sym s))
    ∙ at_tail in
    let bound : tail < length joined = omega (arith, high, length-set table head (Some (first ++ second))) in
    let one = rw at_head at (indirect_in-set table head (Some (first ++ second)) i low) in
    let two = rw other at (indirect_in-set joined tail None i bound) in
    omega (arith, one, two, sum_by-append (λ (s : Seg). indirect_seg s i) first second)

-- what is in two slots holds no more than the table
two_slots : (table : List (Option (List Seg))) (one two i : ℕ) → one ≢ two → one < length table →
    two < length table →
    bag (holds_in_slot (get_or table one None)) i + bag (holds_in_slot (get_or table two None)) i
    ≤ held_in table i
two_slots table one two i apart low high =
    let other : get_or (set table one None) two None ≡ get_or table two None =
    get_or-set_other table one two None None (λ s. apart (sym s)) in
    omega (
      arith,
      held_in-set table one None i low,
      held_in-slot (set table one None) two i (omega (arith, high, length-set {A = Option (List Seg)} table one None)),
      ap (λ (slot : Option (List Seg)). bag (holds_in_slot slot) i) other,
      bag-nil i,
    )

-- packets of one slot aren't attached
pub pair_apart : (one other : Option (List Seg)) (same : Bool) (pair : ℕ × Seg) →
    attachable one other same ≡ Ok pair → same ≡ false
pair_apart None other same pair e = absurd cc
pair_apart (Some segs) None same pair e = absurd cc
pair_apart (Some segs) (Some targets) true pair e = absurd cc
pair_apart (Some segs) (Some targets) false pair e = refl

-- a packet that nothing else holds is attached to another's buffer, which isn't its own then
module _ (table : List (Option (List Seg))) (mi target e : ℕ) (seg : Seg)
    (found : Found (get_or table mi None) (get_or table target None) e seg) (apart : mi ≢ target)
    (outside : ℕ → ℕ) (alone : outside e + held_in table e ≡ 1) where
  mi_within : mi < length table
  mi_within = stands_within table mi (found.own ∷ []) found.here

  target_within : target < length table
  target_within = stands_within table target (seg ∷ found.others) found.there

  -- the element is the own one of the segment that is attached
  own_there : 1 ≤ own_in table e
  own_there =
      omega (
        arith,
        own_in-slot table mi e mi_within,
        ap (λ (slot : Option (List Seg)). bag (own_in_slot slot) e) found.here,
        bag-single found.own.elem e,
        ap (λ (x : ℕ). one x e) found.elem,
        one-same e,
      )

  -- the target's buffer is another element, as nothing else holds this one
  other_buffer : one (buffer_of seg) e ≡ 0
  other_buffer = elim (cases_lt 0 (one (buffer_of seg) e)) [
    | inl same ↦
        let b : buffer_of seg ≡ e = one-is (buffer_of seg) e same in
        let used =
        subst (λ (x : ℕ). 0 < bag (holds_of_packet (seg ∷ found.others)) x) b
        (buffer_held (seg ∷ found.others) 0 seg (omega arith)) in
        absurd (omega (
          arith,
          alone,
          used,
          two_slots table mi target e apart mi_within target_within,
          ap (λ (slot : Option (List Seg)). bag (holds_in_slot slot) e) found.here,
          ap (λ (slot : Option (List Seg)). bag (holds_in_slot slot) e) found.there,
          holds_alone None found.own e found.direct,
          ap (λ (x : ℕ). one x e) found.elem,
          one-same e,
        ))
    | inr none ↦ omega (arith, none)
  ]

  -- an attach makes a new indirect segment, or a base more that no indirect segment has, or neither
  pub attach_links : (i : ℕ) (after : List (Option (List Seg))) →
      based_in after i + based_slot (Some (found.own ∷ [])) i
      ≡ based_in table i + based_slot (Some (attached e seg ∷ [])) i →
      indirect_in after i + indirect_slot (Some (found.own ∷ [])) i
      ≡ indirect_in table i + indirect_slot (Some (attached e seg ∷ [])) i →
      LinksAfter (outside i + held_in table i) (own_in table i) (based_in table i)
      (indirect_in table i) (based_in after i) (indirect_in after i)
  attach_links i after based indirect =
      let b = buffer_of seg in
      let more_based : based_in after i ≡ based_in table i + one b i =
      omega (
        arith,
        based,
        based_alone None found.own i found.direct,
        based_alone (Some b) (attached e seg) i refl,
        bag-nil i,
        bag-single b i,
      ) in
      let more_indirect : indirect_in after i ≡ indirect_in table i + one e i =
      omega (
        arith,
        indirect,
        indirect_alone None found.own i found.direct,
        indirect_alone (Some b) (attached e seg) i refl,
      ) in
      elim (cases_eq e i) [
        | inl same ↦
            NewIndirect (rw (← same) (omega (arith, alone, own_there)))
            (omega (arith, more_based, other_buffer, ap (λ (x : ℕ). one b x) same))
        | inr not_elem ↦ elim (cases_eq b i) [
          | inl same ↦
              let used = subst (λ (x : ℕ). indirect_in table x < held_in table x) same
              (buffer_in table target b (seg ∷ found.others) target_within found.there
              (buffer_packet (seg ∷ found.others) 0 seg (omega arith))) in
              NewBase (omega (arith, used, held_split table i))
              (omega (arith, more_indirect, one-apart e i (λ q. not_elem (sym q))))
          | inr not_base ↦
              Fewer (omega (arith, more_based, one-apart b i (λ q. not_base (sym q))))
              (omega (arith, more_indirect, one-apart e i (λ q. not_elem (sym q))))
        ]
      ]

-- ---- cloning

-- what holds of each base of what was cloned
abbrev pub OfBases : (ℕ → Type 0) → Cloned → Type 0
OfBases P (Ok new, cache, s) = (i : ℕ) → 0 < based_packet new i → P i
OfBases P (Err cause, cache, s) = Unit {0}

-- what holds of a clone that got its element, and of one that was refused it, holds of both
pub element_of : (P : Cloned → Type 0) (r : Result (List ℕ) Refusal × List ℕ × Shared)
    (met : ℕ → List ℕ → Shared → Cloned) (refused : Refusal → List ℕ → Shared → Cloned) →
    ((e : ℕ) (left : List ℕ) (t : Shared) → P (met e left t)) →
    ((cause : Refusal) (left : List ℕ) (t : Shared) → P (refused cause left t)) →
    P (with_element r met refused)
element_of P (Ok [], left, t) met refused a b = b _ left t
element_of P (Ok (e ∷ es), left, t) met refused a b = a e left t
element_of P (Err cause, left, t) met refused a b = b cause left t

-- clones have the buffers of the segments as bases
pub clone_bases : (l : Limits) (held : ℕ → ℕ) (P : ℕ → Type 0) (segs new : List Seg)
    (cache : List ℕ) (s : Shared) → ((i : ℕ) → 0 < based_packet new i → P i) →
    ((k : ℕ) (d : Seg) → k < length segs → P (buffer_of (get_or segs k d))) →
    OfBases P (clone_segs l held segs new cache s)
clone_bases l held P [] new cache s so_far later = so_far
clone_bases l held P (seg ∷ segs) new cache s so_far later =
    let b = buffer_of seg in
    element_of (OfBases P) (get l 1 cache s)
    (λ e left t.
    if held b + bag (holds_of_packet new) b == l.ref_limit
    then give_up l held (holds_of_packet new ++ e ∷ []) RefSpent left t
    else clone_segs l held segs (new ++ attached e seg ∷ []) left t)
    (λ cause left t. give_up l held (holds_of_packet new) cause left t)
    (λ e left t. elim (cases_Bool (held b + bag (holds_of_packet new) b == l.ref_limit)) [
      | inl full ↦ rw full tt
      | inr below ↦ rw below (clone_bases l held P segs (new ++ attached e seg ∷ []) left t
          (λ i some. elim (cases_lt 0 (one b i)) [
            | inl here ↦ subst P (one-is b i here) (later 0 seg (omega arith))
            | inr none ↦ so_far i (omega (arith, some, none, based-more new e seg i))
          ])
          (λ k d within. later (suc k) d (omega (arith, within))))
    ])
    (λ cause left t. tt)

-- where the clone's elements were nobody's and its bases are buffers in use
pub clone_links : (outside had : ℕ) (table after : List (Option (List Seg))) (new : List Seg)
    (i : ℕ) → (0 < based_packet new i → indirect_in table i < held_in table i) →
    had + min 1 (outside + held_in table i) ≤ 1 → bag (own_of_packet new) i ≤ had →
    based_in after i ≡ based_in table i + based_packet new i →
    indirect_in after i ≡ indirect_in table i + indirect_packet new i →
    LinksAfter (outside + held_in table i) (own_in table i) (based_in table i) (indirect_in table i)
    (based_in after i) (indirect_in after i)
clone_links outside had table after new i buffer few own based indirect = elim (cases_lt 0 (based_packet new i)) [
  | inl some ↦
      let used = buffer some in
      NewBase (omega (arith, used, held_split table i)) (omega (arith, indirect, packet-own new i, own, few, used))
  | inr none ↦ elim (cases_lt 0 (indirect_packet new i)) [
    | inl some ↦ NewIndirect (omega (arith, some, packet-own new i, own, few)) (omega (arith, based, none))
    | inr no_more ↦ Fewer (omega (arith, based, none)) (omega (arith, indirect, no_more))
  ]
]
