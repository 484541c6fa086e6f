-- What stays a worker's own once a packet has passed over a desk.
use Rattle.std.proofs.Common.{◌≡◌, ℕ, ◌+◌, ◌<◌, List, length, get_or, set, Option, Some, None, sym, ap, ◌∙◌, inl, inr, arith}
use Rattle.std.proofs.lemmas.Bool.{cases_lt}
use Rattle.std.proofs.lemmas.List.{set-get_or, set-set}
use Rattle.commons.specs.Bag.{bag}
use Rattle.commons.specs.Calls.{IsOffer, Side}
use Rattle.commons.specs.declared.packet.Seg.{Seg}
use Rattle.commons.proofs.Bags.{bag-nil}
use Rattle.commons.proofs.PacketBags.{held_in-set, own_in-set, own_in-held}
use Rattle.commons.specs.Packets.{holds_of_packet, own_of_packet, holds_in_slot, own_in_slot, held_in}
use Rattle.mbuf.specs.Members.{Member}
use Rattle.mbuf.specs.Own.{OwnWith}

-- a packet has gone with all that it holds, and its slot is free
pub own_offered : (guests : ℕ → ℕ) (m : Member) (s0 s1 : Side) (slot : ℕ) (segs : List Seg) →
    OwnWith guests m s0 →
    slot < length m.table → get_or m.table slot None ≡ Some segs → IsOffer segs s0 s1 →
    OwnWith guests (record m { table = set m.table slot None }) s1
own_offered guests m s0 s1 slot segs own within there sent =
    let held : (i : ℕ) → s1.holds i ≡ held_in (set m.table slot None) i + guests i = λ i.
    omega (
      arith,
      sent.holds i,
      own.held i,
      held_in-set m.table slot None i within,
      ap (λ (o : Option (List Seg)). bag (holds_in_slot o) i) there,
      bag-nil i,
    ) in record {
      limits = own.limits ∙ sym sent.limits;
      cached = λ i. ap (λ (h : ℕ → ℕ). h i) sent.hand ∙ own.cached i;
      held = held;
      headed = λ i. elim (cases_lt 0 (s1.holds i)) [
        | inl some ↦
            omega (
              arith,
              sent.left i some,
              own.headed i,
              own_in-set m.table slot None i within,
              ap (λ (o : Option (List Seg)). bag (own_in_slot o) i) there,
              bag-nil i,
            )
        | inr none ↦ omega (arith, none, own_in-held (set m.table slot None) i, held i)
      ];
    }

-- a packet has come with all that it holds, into a free slot
pub own_taken : (guests : ℕ → ℕ) (m : Member) (s0 s1 : Side) (slot : ℕ) (segs : List Seg) →
    OwnWith guests m s0 →
    s1.limits ≡ s0.limits → slot < length m.table → get_or m.table slot None ≡ None →
    s1.hand ≡ s0.hand → ((i : ℕ) → s1.holds i ≡ s0.holds i + bag (holds_of_packet segs) i) →
    ((i : ℕ) → s1.headers i ≡ s0.headers i + bag (own_of_packet segs) i) →
    OwnWith guests (record m { table = set m.table slot (Some segs) }) s1
own_taken guests m s0 s1 slot segs own same within free hand holds headers = record {
  limits = own.limits ∙ sym same;
  cached = λ i. ap (λ (h : ℕ → ℕ). h i) hand ∙ own.cached i;
  held =
      λ i.
      omega (
        arith,
        holds i,
        own.held i,
        held_in-set m.table slot (Some segs) i within,
        ap (λ (o : Option (List Seg)). bag (holds_in_slot o) i) free,
        bag-nil i,
      );
  headed =
      λ i.
      omega (
        arith,
        headers i,
        own.headed i,
        own_in-set m.table slot (Some segs) i within,
        ap (λ (o : Option (List Seg)). bag (own_in_slot o) i) free,
        bag-nil i,
      );
}

-- what is put back into its place
pub set_back : (packets : List (List Seg)) (k : ℕ) (other segs : List Seg) →
    get_or packets k segs ≡ segs → set (set packets k other) k segs ≡ packets
set_back packets k other segs e =
    set-set packets k other segs ∙ ap (λ (x : List Seg). set packets k x) (sym e)
    ∙ set-get_or packets k segs
