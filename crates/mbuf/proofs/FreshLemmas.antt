-- The elements that a worker is given were nobody's: what makes them so, and where they stand.
use Rattle.std.proofs.Common.{◌≡◌, ℕ, suc, ◌+◌, ◌<◌, ◌≤◌, All, List, [], ◌∷◌, ◌++◌, length, map, get_or, set, get_or-set_same, take, Option, Some, None, Ok, inl, inr, refl, ap, ◌∙◌, arith}
use Rattle.std.specs.Prelude.{is_none}
use Rattle.std.specs.List.{position_or_len}
use Rattle.std.proofs.lemmas.Bool.{cases_lt}
use Rattle.std.proofs.lemmas.List.{append-nil, length-take}
use Rattle.commons.specs.Bag.{bag}
use Rattle.commons.specs.Calls.{Call, Side}
use Rattle.commons.specs.Packets.{held_in, own_in_slot, own_of_packet}
use Rattle.commons.specs.declared.limits.Limits.{Limits}
use Rattle.commons.specs.declared.packet.Seg.{Seg}
use Rattle.commons.proofs.Bags.{bag-nil}
use Rattle.mbuf.specs.Acts.{first_elem, new_packet}
use Rattle.mbuf.specs.Fresh.{AreFresh, own_in_slots}
use Rattle.mbuf.specs.Members.{Member}
use Rattle.mbuf.specs.Own.{OwnWith}
use Rattle.mbuf.specs.PacketRules.{Allocs, Full, NotGot, Fresh, AllocsBulk, TooFull, BulkNotGot, FreshBulk, fresh_seg, free_slots, stood}
use Rattle.mbuf.proofs.FreeLemmas.{first_free, taken_first, stays, stood_there}
use Rattle.mbuf.proofs.OwnLemmas.{free_slot-is}

-- nothing is given
pub fresh_none : (population : ℕ) (held : ℕ → ℕ) → AreFresh population held []
fresh_none population held = record {
  below = λ i h. absurd (omega (arith, h, bag-nil i));
  once = λ i. omega (arith, bag-nil i);
  unheld = λ i h. absurd (omega (arith, h, bag-nil i));
}

-- new headers, of which none was held before: a header is one once, and is held, as nothing past
-- the population is
pub fresh_headers : (s t : Side) (population : ℕ) (held : ℕ → ℕ) (es : List ℕ) →
    ((i : ℕ) → t.headers i ≤ 1) → ((i : ℕ) → 0 < t.headers i → 0 < t.holds i) →
    ((i : ℕ) → population ≤ i → t.holds i ≡ 0) → ((i : ℕ) → t.headers i ≡ s.headers i + bag es i) →
    ((i : ℕ) → 0 < bag es i → held i ≡ 0) → AreFresh population held es
fresh_headers s t population held es once own past more unheld = record {
  below = λ i h. elim (cases_lt i population) [
    | inl b ↦ b
    | inr b ↦ absurd (omega (arith, own i (omega (arith, more i, h)), past i b))
  ];
  once = λ i. omega (arith, once i, more i);
  unheld = unheld;
}

-- what the worker didn't hold was in none of its packets
pub fresh_packets : (guests : ℕ → ℕ) (m : Member) (s : Side) (population : ℕ) (es : List ℕ) → OwnWith guests m s →
    AreFresh population s.holds es → AreFresh population (held_in m.table) es
fresh_packets guests m s population es own fresh = record {
  below = fresh.below;
  once = fresh.once;
  unheld = λ i some. omega (arith, own.held i, fresh.unheld i some);
}

-- the elements of the packet in one slot
pub own_in_one : (table : List (Option (List Seg))) (slot : ℕ) (segs : List Seg) →
    slot < length table → own_in_slots (set table slot (Some segs)) (slot ∷ []) ≡ own_of_packet segs
own_in_one table slot segs within =
    ap (λ (o : Option (List Seg)). own_in_slot o ++ [])
    (get_or-set_same table slot (Some segs) None within) ∙ append-nil (own_of_packet segs)

-- the elements of fresh packets that stand in the lowest free slots
pub own_in_stood : (l : Limits) (es : List ℕ) (table : List (Option (List Seg))) →
    length es ≤ length (free_slots table) →
    own_in_slots (stood l es (take (length es) (free_slots table)) table) (take (length es) (free_slots table)) ≡ es
own_in_stood l [] table h = refl
own_in_stood l (e ∷ es) table h =
    let first = position_or_len is_none table in
    let free = first_free table (omega (arith, h)) in
    let next = set table first (Some (fresh_seg l e ∷ [])) in
    let slots = taken_first table first (fresh_seg l e ∷ []) free in
    let room : length es ≤ length (free_slots next) = omega (arith, h, ap (λ (s : List ℕ). length s) slots) in
    let here =
    stays l es next first (fresh_seg l e ∷ []) room (get_or-set_same table first
    (Some (fresh_seg l e ∷ [])) None (free_slot-is table first free).0) in
    rw slots (rw (here, own_in_stood l es next room) refl)

-- ---- as a reply tells of them

-- what stands in each slot is a packet of one segment
IsSingle : List (Option (List Seg)) → ℕ → Type 0
IsSingle table slot = (seg : Seg) × (get_or table slot None ≡ Some (seg ∷ []))

-- The own elements of packets of one segment are those by which new packets are told.
singles : (table : List (Option (List Seg))) (slots : List ℕ) → All (IsSingle table) slots →
    own_in_slots table slots ≡ map (λ packet. packet.elem) (map (new_packet table) slots)
unfolding IsSingle
singles table [] all = refl
singles table (slot ∷ slots) all =
    let one = all 0 0 (omega arith) in
    rw (one.1, singles table slots (λ k d within. all (suc k) d (omega (arith, within)))) refl

-- the one element of a new packet
pub allocated_elements : (m after : Member) (calls : List Call) (slot : ℕ) →
    Allocs m calls (Ok slot) after →
    own_in_slots after.table (slot ∷ []) ≡ first_elem (get_or after.table slot None) ∷ []
allocated_elements m after calls slot (Full f c a k) = absurd cc
allocated_elements m after calls slot (NotGot s f cause g a k) = absurd cc
allocated_elements m after calls slot (Fresh s e f got left g c a k) =
    let same : slot ≡ s = cc in
    let there : get_or after.table slot None ≡ Some (fresh_seg m.limits e ∷ []) =
    ap (λ (x : Member). get_or x.table slot None) k
    ∙ rw same (get_or-set_same m.table s (Some (fresh_seg m.limits e ∷ [])) None
    (free_slot-is m.table s f).0) in
    rw there refl

-- the elements of the new packets of a bulk, each of one
pub bulk_elements : (m after : Member) (n : ℕ) (calls : List Call) (slots : List ℕ) →
    AllocsBulk m n calls (Ok slots) after →
    own_in_slots after.table slots ≡ map (λ packet. packet.elem) (map (new_packet after.table) slots)
unfolding IsSingle
bulk_elements m after n calls slots (TooFull f c a k) = absurd cc
bulk_elements m after n calls slots (BulkNotGot f cause g a k) = absurd cc
bulk_elements m after n calls slots (FreshBulk es long room got left g c a k) =
    let same : slots ≡ take n (free_slots m.table) = cc in
    singles after.table slots (λ j d within. (
      fresh_seg m.limits (get_or es j 0),
      ap (λ (x : Member). get_or x.table (get_or slots j d) None) k
          ∙ rw (same, ← long) (stood_there m.limits es m.table (omega (arith, long, room)) j d
          (omega (arith, within, long, room, length-take n (free_slots m.table), ap (λ (s : List ℕ). length s) same))),
    ))

-- the elements of a clone
pub slot_elements : (table : List (Option (List Seg))) (slot : ℕ) →
    own_in_slots table (slot ∷ []) ≡ own_in_slot (get_or table slot None)
slot_elements table slot = append-nil (own_in_slot (get_or table slot None))
