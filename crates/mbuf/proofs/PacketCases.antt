-- What a change of lengths and a chain answer and leave, case by case.
use Rattle.std.proofs.Common.{◌≡◌, ◌≢◌, ◌==◌, ◌+◌, ◌<◌, ◌≤◌, ◌++◌, ℕ, List, cond, length, get_or, set, nat_lt, Option, Some, None, Result, Ok, Err, refl, sym, ap, ◌∙◌}
use Rattle.std.proofs.lemmas.Bool.{cond-true, cond-false, lt-ltb, le-ltb, eq-eqb, ne_eqb}
use Rattle.commons.specs.declared.packet.Seg.{Seg}
use Rattle.commons.specs.declared.refusal.Refusal.{Refusal}
use Rattle.commons.specs.declared.refusal.Refusal.TheVariants.{NoSuchPacket, SamePacket, TooManySegs}
use Rattle.commons.specs.Packets.{max_segs, pkt_len}
use Rattle.mbuf.specs.Members.{Member}
use Rattle.mbuf.specs.PacketRules.{Chains, Resizes, chain, chain_in, resize_in, resize_to}

-- the slot is empty, or there is none of this number
pub nothing_there : (change : List Seg → Option (List Seg)) (cause : Refusal) (m : Member)
    (slot : ℕ) → get_or m.table slot None ≡ None →
    Resizes change cause m slot (Err NoSuchPacket) m
nothing_there change cause m slot f = sym (ap (λ (o : Option (List Seg)). resize_in o change cause slot m) f)

-- a change of lengths for which the packet doesn't have the room or the data
pub not_resized_is : (change : List Seg → Option (List Seg)) (cause : Refusal) (m after : Member)
    (slot : ℕ) (answer : Result ℕ Refusal) (segs : List Seg) →
    get_or m.table slot None ≡ Some segs → change segs ≡ None → answer ≡ Err cause → after ≡ m →
    Resizes change cause m slot answer after
not_resized_is change cause m after slot answer segs f r a k =
    rw (a, k) (sym (ap (λ (o : Option (List Seg)). resize_in o change cause slot m) f
    ∙ ap (λ (o : Option (List Seg)). resize_to o cause slot m) r))

-- a change of lengths for which the packet has the room or the data
pub was_resized_is : (change : List Seg → Option (List Seg)) (cause : Refusal) (m after : Member)
    (slot : ℕ) (answer : Result ℕ Refusal) (segs new : List Seg) →
    get_or m.table slot None ≡ Some segs → change segs ≡ Some new → answer ≡ Ok (pkt_len new) →
    after ≡ record m { table = set m.table slot (Some new) } →
    Resizes change cause m slot answer after
was_resized_is change cause m after slot answer segs new f r a k =
    rw (a, k) (sym (ap (λ (o : Option (List Seg)). resize_in o change cause slot m) f
    ∙ ap (λ (o : Option (List Seg)). resize_to o cause slot m) r))

-- a chain by what is in the two slots
chain_at : (m : Member) (head tail : ℕ) (one two : Option (List Seg)) →
    get_or m.table head None ≡ one → get_or m.table tail None ≡ two →
    chain head tail m ≡ chain_in one two head tail m
chain_at m head tail one two e f = rw (e, f) refl

-- what a chain answers, and what it leaves
abbrev Done : Type 0
Done = Result (Unit {0}) Refusal × Member

-- two packets that become one
abbrev joined : List Seg → List Seg → ℕ → ℕ → Member → Done
joined first second head tail m =
    (Ok tt, record m { table = set (set m.table head (Some (first ++ second))) tail None })

-- two that become one where they have few enough segments
abbrev joined_if_short : List Seg → List Seg → ℕ → ℕ → Member → Done
joined_if_short first second head tail m =
    cond (nat_lt max_segs (length first + length second)) (Err TooManySegs, m)
    (joined first second head tail m)

-- a chain with no tail is refused, whatever stands at its head
without_tail : (m : Member) (head tail : ℕ) (one : Option (List Seg)) →
    chain_in one None head tail m ≡ (Err NoSuchPacket, m)
without_tail m head tail None = refl
without_tail m head tail (Some segs) = refl

-- a chain where no packet stands in the head's slot
pub no_head : (m : Member) (head tail : ℕ) → get_or m.table head None ≡ None → Chains m head tail (Err NoSuchPacket) m
no_head m head tail f = sym (chain_at m head tail None (get_or m.table tail None) f refl)

-- a chain where no packet stands in the tail's slot
pub no_tail : (m : Member) (head tail : ℕ) → get_or m.table tail None ≡ None → Chains m head tail (Err NoSuchPacket) m
no_tail m head tail f =
    sym (chain_at m head tail (get_or m.table head None) None refl f
    ∙ without_tail m head tail (get_or m.table head None))

-- a chain of a packet to itself
pub same_is : (m : Member) (head tail : ℕ) (segs : List Seg) →
    get_or m.table head None ≡ Some segs → head ≡ tail → Chains m head tail (Err SamePacket) m
same_is m head tail segs f e =
    let g = sym (ap (λ (n : ℕ). get_or m.table n None) e) ∙ f in
    sym (chain_at m head tail (Some segs) (Some segs) f g
    ∙ cond-true (head == tail) (Err SamePacket, m) (joined_if_short segs segs head tail m)
    (eq-eqb head tail e))

-- a chain of more segments together than a packet has
pub too_long_is : (m : Member) (head tail : ℕ) (first second : List Seg) →
    get_or m.table head None ≡ Some first → get_or m.table tail None ≡ Some second → head ≢ tail →
    max_segs < length first + length second → Chains m head tail (Err TooManySegs) m
too_long_is m head tail first second f g apart long =
    sym (chain_at m head tail (Some first) (Some second) f g
    ∙ cond-false (head == tail) (Err SamePacket, m) (joined_if_short first second head tail m) (ne_eqb head tail apart)
    ∙ cond-true (nat_lt max_segs (length first + length second)) (Err TooManySegs, m)
    (joined first second head tail m) (lt-ltb max_segs (length first + length second) long))

-- a chain of two packets that have no more segments together than one may have
pub was_chained_is : (m after : Member) (head tail : ℕ) (first second : List Seg) →
    get_or m.table head None ≡ Some first → get_or m.table tail None ≡ Some second → head ≢ tail →
    length first + length second ≤ max_segs →
    after ≡ record m { table = set (set m.table head (Some (first ++ second))) tail None } →
    Chains m head tail (Ok tt) after
was_chained_is m after head tail first second f g apart few k =
    rw k (sym (chain_at m head tail (Some first) (Some second) f g
    ∙ cond-false (head == tail) (Err SamePacket, m) (joined_if_short first second head tail m) (ne_eqb head tail apart)
    ∙ cond-false (nat_lt max_segs (length first + length second)) (Err TooManySegs, m)
    (joined first second head tail m) (le-ltb max_segs (length first + length second) few)))

-- what is told where no packet is
pub ruleset nothing = (nothing_there, no_head, no_tail)
