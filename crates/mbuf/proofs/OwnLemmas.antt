-- What the packets hold, and what of it stays a worker's own.
use Rattle.std.proofs.Common.{◌≡◌, ℕ, ◌+◌, ◌<◌, ◌≤◌, List, [], length, replicate, get_or, set, Option, Some, None, refl, sym, ◌∙◌, true, inl, inr, arith}
use Rattle.std.specs.Prelude.{is_none}
use Rattle.std.proofs.lemmas.Bool.{cases_lt}
use Rattle.std.proofs.lemmas.List.Quantifiers.{position-Some}
use Rattle.commons.specs.Bag.{bag}
use Rattle.commons.specs.Calls.{SameSide, Side}
use Rattle.commons.specs.declared.packet.Seg.{Seg}
use Rattle.commons.proofs.Bags.{bag-nil}
use Rattle.commons.specs.Packets.{holds_of_packet, held_in, own_in}
use Rattle.mbuf.specs.Members.{Member, slots}
use Rattle.commons.proofs.PacketBags.{held_in-empty, held_in-set, own_in-empty, own_in-set, own_in-held}
use Rattle.mbuf.specs.Own.{OwnWith, no_guests}
use Rattle.mbuf.specs.PacketRules.{free_slot}

-- a slot that tests as empty shows nothing
none_is : (o : Option (List Seg)) → is_none o ≡ true → o ≡ None
none_is None e = refl
none_is (Some segs) e = absurd cc

-- a free slot is in the table, and nothing is in it
pub free_slot-is : (table : List (Option (List Seg))) (slot : ℕ) → free_slot table ≡ Some slot →
    (slot < length table) × (get_or table slot None ≡ None)
free_slot-is table slot e =
    let h = position-Some is_none table slot None e in (h.0, none_is (get_or table slot None) h.1)

-- what is still an own element is still held, and so a header as before
pub own_headed : (own before held guests holds d1 d0 : ℕ) → own ≤ before → before ≤ d0 → own ≤ held →
    holds ≡ held + guests → (0 < holds → d1 ≡ d0) → own ≤ d1
own_headed own before held guests holds d1 d0 a b c e f = elim (cases_lt 0 holds) [
  | inl some ↦ omega (arith, a, b, f some)
  | inr none ↦ omega (arith, c, e, none)
]

-- a new worker's packets are its own where it has nothing
pub own_new : (s : Side) (number : ℕ) → ((i : ℕ) → s.hand i ≡ 0) → ((i : ℕ) → s.holds i ≡ 0) →
    OwnWith no_guests (record { limits = s.limits; number = number; cache = []; table = replicate slots None }) s
own_new s number no_hand no_hold = record {
  limits = refl;
  cached = λ i. omega (arith, no_hand i, bag-nil i);
  held = λ i. omega (arith, no_hold i, held_in-empty slots i);
  headed = λ i. omega (arith, own_in-empty slots i);
}

-- what is the same of each element is so for the packets
pub own_same : (guests : ℕ → ℕ) (m : Member) (s t : Side) → OwnWith guests m s → SameSide s t →
    OwnWith guests m t
own_same guests m s t own same = record {
  limits = own.limits ∙ sym same.limits;
  cached = λ i. same.hand i ∙ own.cached i;
  held = λ i. same.holds i ∙ own.held i;
  headed = λ i. omega (arith, own.headed i, same.headers i);
}

-- a packet's holds have ended, and its slot is free
pub own_free : (guests : ℕ → ℕ) (m : Member) (s0 s1 : Side) (cache : List ℕ) (slot : ℕ) (segs : List Seg) →
    OwnWith guests m s0 → s1.limits ≡ s0.limits → slot < length m.table → get_or m.table slot None ≡ Some segs →
    ((i : ℕ) → s1.hand i ≡ bag cache i) →
    ((i : ℕ) → s0.holds i ≡ s1.holds i + bag (holds_of_packet segs) i) →
    ((i : ℕ) → 0 < s1.holds i → s1.headers i ≡ s0.headers i) →
    OwnWith guests (record m { cache = cache; table = set m.table slot None }) s1
own_free guests m s0 s1 cache slot segs own same within there hand holds headers =
    let left : (i : ℕ) → s1.holds i ≡ held_in (set m.table slot None) i + guests i = λ i.
    let t = rw there at (held_in-set m.table slot None i within) in
    omega (arith, holds i, own.held i, t, bag-nil i) in
    let fewer : (i : ℕ) → own_in (set m.table slot None) i ≤ own_in m.table i =
    λ i. omega (arith, own_in-set m.table slot None i within, bag-nil i) in
    record {
      limits = own.limits ∙ sym same;
      cached = hand;
      held = left;
      headed =
          λ i.
          own_headed (own_in (set m.table slot None) i) (own_in m.table i)
          (held_in (set m.table slot None) i) (guests i) (s1.holds i) (s1.headers i) (s0.headers i)
          (fewer i) (own.headed i) (own_in-held (set m.table slot None) i) (left i) (headers i);
    }
