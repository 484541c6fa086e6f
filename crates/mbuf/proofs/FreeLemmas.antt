-- The free slots of a table, and fresh packets that stand in them.
use Rattle.std.proofs.Common.{◌≡◌, ℕ, zero, suc, ◌+◌, ◌<◌, ◌≤◌, Bool, true, false, List, [], ◌∷◌, ◌++◌, length, get_or, set, get_or-set_same, get_or-set_other, take, drop, nat_lt, Option, Some, None, refl, sym, ap, ◌∙◌, inl, inr, arith}
use Rattle.std.specs.Prelude.{cond, is_none, count_by}
use Rattle.std.specs.List.{position_or_len}
use Rattle.std.proofs.lemmas.List.{length-take, get_or-drop, take_more, take_more_set, drop_more, drop-set-lt}
use Rattle.std.proofs.lemmas.Grind.{drop_more_same}
use Rattle.std.proofs.lemmas.List.Sums.{sum_by-cons}
use Rattle.std.proofs.lemmas.Bool.{cases_lt, cond-true, cond-false, lt-ltb, le-ltb}
use Rattle.commons.proofs.Sames.{some-is}
use Rattle.commons.specs.Bag.{bag}
use Rattle.commons.specs.Calls.{Side}
use Rattle.commons.specs.declared.limits.Limits.{Limits}
use Rattle.commons.specs.declared.packet.Seg.{Seg}
use Rattle.commons.proofs.Bags.{bag-nil, bag-cons, bag-single}
use Rattle.mbuf.specs.inside.Kept.{shown}
use Rattle.commons.specs.Packets.{held_in, own_in}
use Rattle.mbuf.specs.Members.{Member}
use Rattle.mbuf.specs.Own.{OwnWith}
use Rattle.mbuf.specs.PacketRules.{fresh_seg, free_slot, free_from, free_slots, stood}
use Rattle.commons.proofs.PacketBags.{held_in-set, own_in-set}
use Rattle.mbuf.proofs.OwnLemmas.{free_slot-is}

-- as many slots are free as flags are up
pub length-free : (slot : ℕ) (flags : List Bool) (packets : List (List Seg)) →
    length packets ≡ length flags →
    length (free_from slot (shown flags packets)) ≡ count_by (λ (free : Bool). free) flags
length-free slot [] packets e = refl
length-free slot (free ∷ flags) [] e = absurd (omega (arith, e))
length-free slot (true ∷ flags) (segs ∷ packets) e =
    omega (
      arith,
      length-free (slot + 1) flags packets (omega (arith, e)),
      sum_by-cons (λ (free : Bool). cond free 1 0) true flags,
    )
length-free slot (false ∷ flags) (segs ∷ packets) e = length-free (slot + 1) flags packets (omega (arith, e))

-- where some slot is free, there is a first one
first_within : (slot : ℕ) (table : List (Option (List Seg))) → 0 < length (free_from slot table) →
    position_or_len is_none table < length table
first_within slot [] h = absurd (omega (arith, h))
first_within slot (None ∷ table) h = omega arith
first_within slot (Some segs ∷ table) h = omega (arith, first_within (slot + 1) table h)

-- where some slot is free, there is a lowest one
pub first_free : (table : List (Option (List Seg))) → 0 < length (free_slots table) →
    free_slot table ≡ Some (position_or_len is_none table)
first_free table h =
    cond-true (nat_lt (position_or_len is_none table) (length table))
    (Some (position_or_len is_none table)) None
    (lt-ltb (position_or_len is_none table) (length table) (first_within 0 table h))

-- a slot that was found is the first
found_first : (table : List (Option (List Seg))) (slot : ℕ) → free_slot table ≡ Some slot →
    position_or_len is_none table ≡ slot
found_first table slot e = elim (cases_lt (position_or_len is_none table) (length table)) [
  | inl l ↦
      some-is (position_or_len is_none table) slot (sym (cond-true
      (nat_lt (position_or_len is_none table) (length table))
      (Some (position_or_len is_none table)) None
      (lt-ltb (position_or_len is_none table) (length table) l)) ∙ e)
  | inr l ↦
      absurd (
      let none =
      sym (cond-false (nat_lt (position_or_len is_none table) (length table))
      (Some (position_or_len is_none table)) None
      (le-ltb (position_or_len is_none table) (length table) l)) ∙ e in
      cc)
]

-- The free slots are the lowest one and those that are free once it is taken.
taken_at : (b : ℕ) (table : List (Option (List Seg))) (k : ℕ) (segs : List Seg) →
    position_or_len is_none table ≡ k → k < length table →
    free_from b table ≡ (b + k) ∷ free_from b (set table k (Some segs))
taken_at b [] k segs e h = absurd (omega (arith, h))
taken_at b (None ∷ table) zero segs e h = ap (λ (n : ℕ). n ∷ free_from (b + 1) table) (omega arith)
taken_at b (None ∷ table) (suc k) segs e h = absurd (omega (arith, e))
taken_at b (Some other ∷ table) zero segs e h = absurd (omega (arith, e))
taken_at b (Some other ∷ table) (suc k) segs e h =
    taken_at (b + 1) table k segs (omega (arith, e)) (omega (arith, h))
    ∙ ap (λ (n : ℕ). n ∷ free_from (b + 1) (set table k (Some segs))) (omega arith)

-- once a packet stands in the lowest free slot, the others are free
pub taken_first : (table : List (Option (List Seg))) (slot : ℕ) (segs : List Seg) →
    free_slot table ≡ Some slot → free_slots table ≡ slot ∷ free_slots (set table slot (Some segs))
taken_first table slot segs e =
    taken_at 0 table slot segs (found_first table slot e) (free_slot-is table slot e).0
    ∙ ap (λ (n : ℕ). n ∷ free_slots (set table slot (Some segs))) (omega arith)

-- one packet more stands
pub stood_more : (l : Limits) (es slots : List ℕ) (e slot : ℕ) (table : List (Option (List Seg))) →
    length slots ≡ length es →
    stood l (es ++ e ∷ []) (slots ++ slot ∷ []) table ≡ set (stood l es slots table) slot (Some (fresh_seg l e ∷ []))
stood_more l [] [] e slot table h = refl
stood_more l [] (k ∷ slots) e slot table h = absurd (omega (arith, h))
stood_more l (x ∷ es) [] e slot table h = absurd (omega (arith, h))
stood_more l (x ∷ es) (k ∷ slots) e slot table h =
    stood_more l es slots e slot (set table k (Some (fresh_seg l x ∷ []))) (omega (arith, h))

-- fresh packets in the lowest free slots hold their elements, once each
abbrev pub Holds : List (Option (List Seg)) → List ℕ → List (Option (List Seg)) → Type 0
Holds table es after =
    (i : ℕ) →
    (held_in after i ≡ held_in table i + bag es i) × (own_in after i ≡ own_in table i + bag es i)

-- A fresh packet in the lowest free slot is one hold of its element more, and no other.
holds_one : (l : Limits) (e slot : ℕ) (table : List (Option (List Seg))) →
    free_slot table ≡ Some slot → Holds table (e ∷ []) (set table slot (Some (fresh_seg l e ∷ [])))
holds_one l e slot table free i =
    let empty = free_slot-is table slot free in
    let h = rw empty.1 at (held_in-set table slot (Some (fresh_seg l e ∷ [])) i empty.0) in
    let o = rw empty.1 at (own_in-set table slot (Some (fresh_seg l e ∷ [])) i empty.0) in
    (omega (arith, h, bag-nil i), omega (arith, o, bag-nil i))

-- Fresh packets in the lowest free slots are one hold of each of their elements more.
pub holds_stood : (l : Limits) (es : List ℕ) (table : List (Option (List Seg))) →
    length es ≤ length (free_slots table) →
    Holds table es (stood l es (take (length es) (free_slots table)) table)
holds_stood l [] table h i = (omega (arith, bag-nil i), omega (arith, bag-nil i))
holds_stood l (e ∷ es) table h i =
    let slot = position_or_len is_none table in
    let free = first_free table (omega (arith, h)) in
    let next = set table slot (Some (fresh_seg l e ∷ [])) in
    let slots = taken_first table slot (fresh_seg l e ∷ []) free in
    let rest = holds_stood l es next (omega (arith, h, ap (λ (s : List ℕ). length s) slots)) i in
    let first = holds_one l e slot table free i in
    rw slots (
      omega (arith, rest.0, first.0, bag-cons e es i, bag-single e i),
      omega (arith, rest.1, first.1, bag-cons e es i, bag-single e i),
    )

-- packets of fresh elements stand in the lowest free slots
pub own_stood : (guests : ℕ → ℕ) (m : Member) (s0 s1 s2 : Side) (cache es : List ℕ) →
    OwnWith guests m s0 → s2.limits ≡ s0.limits → length es ≤ length (free_slots m.table) →
    ((i : ℕ) → s1.hand i + bag m.cache i ≡ s0.hand i + bag cache i + bag es i) →
    s1.holds ≡ s0.holds → s1.headers ≡ s0.headers →
    ((i : ℕ) → s1.hand i ≡ s2.hand i + bag es i) → ((i : ℕ) → s2.holds i ≡ s1.holds i + bag es i) →
    ((i : ℕ) → s2.headers i ≡ s1.headers i + bag es i) →
    OwnWith guests (record m { cache = cache; table = stood m.limits es (take (length es) (free_slots m.table)) m.table }) s2
own_stood guests m s0 s1 s2 cache es own same free got_hand got_holds got_headers hand holds headers = record {
  limits = own.limits ∙ sym same;
  cached = λ i. omega (arith, got_hand i, hand i, own.cached i);
  held =
      λ i.
      omega (
        arith,
        holds i,
        ap (λ (f : ℕ → ℕ). f i) got_holds,
        own.held i,
        (holds_stood m.limits es m.table free i).0,
      );
  headed =
      λ i.
      omega (
        arith,
        headers i,
        ap (λ (f : ℕ → ℕ). f i) got_headers,
        own.headed i,
        (holds_stood m.limits es m.table free i).1,
      );
}

-- the packets of the first k elements stand, their slots are listed in their places, and the other
-- slots are still free
pub record StoodSo (es : List ℕ) (m : Member) (k : ℕ) (out : List ℕ) (after : Member) : Type 0 where
  pub slots : take k out ≡ take k (free_slots m.table)
  pub left : drop k out ≡ drop k es
  pub free : free_slots after.table ≡ drop k (free_slots m.table)
  pub stood : after ≡ record m { table = stood m.limits (take k es) (take k (free_slots m.table)) m.table }

-- at first no packet stands, and all slots are left
pub StoodSo-none : (es : List ℕ) (m : Member) → StoodSo es m 0 es m
StoodSo-none es m = record { slots = refl; left = refl; free = refl; stood = refl }

-- an element that is left stands in its place
pub next_left : (es out : List ℕ) (k : ℕ) → drop k out ≡ drop k es → get_or out k 0 ≡ get_or es k 0
next_left es out k e =
    let at : k + 0 ≡ k = omega arith in
    rw at at (sym (get_or-drop k out 0 0) ∙ ap (λ (xs : List ℕ). get_or xs 0 0) e ∙ get_or-drop k es 0 0)

-- equal lists begin alike and go on alike
first_is : (x y : ℕ) (xs ys : List ℕ) → x ∷ xs ≡ y ∷ ys → (x ≡ y) × (xs ≡ ys)
first_is x y xs ys e = (cc, cc)

-- The next packet takes the first of the free slots that are left, and the others stay left.
pub StoodSo-more : (es : List ℕ) (m : Member) (k : ℕ) (out : List ℕ) (after new : Member) (slot : ℕ)
    → k < length es → length es ≤ length (free_slots m.table) → length out ≡ length es →
    StoodSo es m k out after → free_slot after.table ≡ Some slot →
    new ≡ record after
    { table = set after.table slot (Some (fresh_seg after.limits (get_or out k 0) ∷ [])) } →
    StoodSo es m (k + 1) (set out k slot) new
StoodSo-more es m k out after new slot within room long so free is =
    let slots = free_slots m.table in
    let e = get_or es k 0 in
    let below : k < length slots = omega (arith, within, room) in
    let at : k < length out = omega (arith, within, long) in
    let rest =
    sym (taken_first after.table slot (fresh_seg after.limits (get_or out k 0) ∷ []) free)
    ∙ so.free ∙ drop_more slots k 0 below in
    let parts =
    first_is slot (get_or slots k 0)
    (free_slots (set after.table slot (Some (fresh_seg after.limits (get_or out k 0) ∷ []))))
    (drop (k + 1) slots) rest in
    let limits : after.limits ≡ m.limits = ap (λ (x : Member). x.limits) so.stood in
    let table : after.table ≡ stood m.limits (take k es) (take k slots) m.table =
    ap (λ (x : Member). x.table) so.stood in
    let elem : get_or out k 0 ≡ e = next_left es out k so.left in
    let more : stood m.limits (take (k + 1) es) (take (k + 1) slots) m.table
    ≡ set after.table slot (Some (fresh_seg after.limits (get_or out k 0) ∷ [])) =
    rw (take_more es k 0 within, take_more slots k 0 below, elem, limits, table, parts.0)
    (stood_more m.limits (take k es) (take k slots) e (get_or slots k 0) m.table
    (omega (arith, length-take k es, length-take k slots, within, below))) in
    record {
      slots =
          take_more_set out k slot at ∙ ap (λ (xs : List ℕ). xs ++ slot ∷ []) so.slots
          ∙ ap (λ (x : ℕ). take k slots ++ x ∷ []) parts.0 ∙ sym (take_more slots k 0 below);
      left = drop-set-lt (k + 1) out k slot (omega arith) ∙ drop_more_same out es k so.left;
      free = ap (λ (x : Member). free_slots x.table) is ∙ parts.1;
      stood =
          is ∙ ap (λ (x : Member). let y : Member =
          record x {
            table =
                set after.table slot (Some (fresh_seg after.limits (get_or out k 0) ∷ []));
          } in
          y) so.stood
          ∙ ap (λ (t : List (Option (List Seg))). let y : Member = record m { table = t } in y) (sym more);
    }

-- what stands stays
pub stays : (l : Limits) (es : List ℕ) (table : List (Option (List Seg))) (slot : ℕ)
    (segs : List Seg) → length es ≤ length (free_slots table) →
    get_or table slot None ≡ Some segs →
    get_or (stood l es (take (length es) (free_slots table)) table) slot None ≡ Some segs
stays l [] table slot segs h there = there
stays l (e ∷ es) table slot segs h there =
    let first = position_or_len is_none table in
    let free = first_free table (omega (arith, h)) in
    let next = set table first (Some (fresh_seg l e ∷ [])) in
    let slots = taken_first table first (fresh_seg l e ∷ []) free in
    let apart : slot ≡ first → ⊥ =
    λ q. let none =
    sym (free_slot-is table first free).1 ∙ ap (λ (n : ℕ). get_or table n None) (sym q)
    ∙ there in
    cc in
    let same = get_or-set_other table first slot (Some (fresh_seg l e ∷ [])) None apart in
    rw slots (stays l es next slot segs (omega (arith, h, ap (λ (s : List ℕ). length s) slots)) (same ∙ there))

-- each fresh packet stands in its slot
pub stood_there : (l : Limits) (es : List ℕ) (table : List (Option (List Seg))) →
    length es ≤ length (free_slots table) → (k d : ℕ) → k < length es →
    get_or (stood l es (take (length es) (free_slots table)) table)
    (get_or (take (length es) (free_slots table)) k d) None
    ≡ Some (fresh_seg l (get_or es k 0) ∷ [])
stood_there l [] table h k d within = absurd (omega (arith, within))
stood_there l (e ∷ es) table h zero d within =
    let first = position_or_len is_none table in
    let free = first_free table (omega (arith, h)) in
    let next = set table first (Some (fresh_seg l e ∷ [])) in
    let slots = taken_first table first (fresh_seg l e ∷ []) free in
    rw slots (stays l es next first (fresh_seg l e ∷ [])
    (omega (arith, h, ap (λ (s : List ℕ). length s) slots)) (get_or-set_same table first
    (Some (fresh_seg l e ∷ [])) None (free_slot-is table first free).0))
stood_there l (e ∷ es) table h (suc k) d within =
    let first = position_or_len is_none table in
    let free = first_free table (omega (arith, h)) in
    let next = set table first (Some (fresh_seg l e ∷ [])) in
    let slots = taken_first table first (fresh_seg l e ∷ []) free in
    rw slots (stood_there l es next (omega (arith, h, ap (λ (s : List ℕ). length s) slots)) k d (omega (arith, within)))

-- no more slots are free than there are
pub free_within : (slot : ℕ) (table : List (Option (List Seg))) → length (free_from slot table) ≤ length table
free_within slot [] = omega arith
free_within slot (None ∷ table) = omega (arith, free_within (slot + 1) table)
free_within slot (Some segs ∷ table) = omega (arith, free_within (slot + 1) table)
