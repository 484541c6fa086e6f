-- A refused act leaves what it finds.
use Rattle.std.proofs.Common.{◌≡◌, ◌≢◌, ℕ, ◌+◌, ◌==◌, inl, inr, nat_lt, List, ◌++◌, length, get_or, get_or-set_same, get_or-set_other, set, Option, Some, None, Result, Ok, Err, refl, ◌∙◌, subst, sym}
use Rattle.std.specs.Prelude.{IsSome}
use Rattle.std.proofs.lemmas.Bool.{cases_Bool, eqb-false}
use Rattle.commons.specs.Calls.{Call, Side}
use Rattle.commons.specs.Packets.{max_segs}
use Rattle.commons.specs.declared.packet.Seg.{Seg}
use Rattle.commons.specs.declared.refusal.Refusal.{Refusal}
use Rattle.commons.proofs.PacketBags.{stands_within}
use Rattle.mbuf.specs.Acts.{told_len, told_taken, chained}
use Rattle.mbuf.specs.Members.{Member}
use Rattle.mbuf.specs.PacketRules.{Chains, Resizes, chain_in, resize_in, resize_to}
use Rattle.mbuf.specs.Refused.{IfRefused}
use Rattle.mbuf.specs.Sharing.{Clones, NotClonable, WasGivenUp, WasCloned}

-- what a call answers, and what the worker has afterwards, beside two of its sides: where it is
-- told of as refused, all is as before
abbrev ResizedSame : Side → Side → Member → Result ℕ Refusal × Member → Type 0
ResizedSame s t m done = IfRefused (told_len done.0) ((t ≡ s) × (done.1 ≡ m))

-- a change that isn't made leaves the worker as it was
resize_to-same : (s t : Side) → t ≡ s →
    (new : Option (List Seg)) (cause : Refusal) (slot : ℕ) (m : Member) →
    ResizedSame s t m (resize_to new cause slot m)
resize_to-same s t e None cause slot m = (e, refl)
resize_to-same s t e (Some segs) cause slot m = tt

-- one where no packet stands leaves it so too
resize_in-same : (s t : Side) → t ≡ s →
    (old : Option (List Seg)) (change : List Seg → Option (List Seg)) (cause : Refusal) (slot : ℕ)
    (m : Member) → ResizedSame s t m (resize_in old change cause slot m)
resize_in-same s t e None change cause slot m = (e, refl)
resize_in-same s t e (Some segs) change cause slot m = resize_to-same s t e (change segs) cause slot m

-- an append, prepend, adj or trim that is refused leaves the worker as it was
pub resized_same : (change : List Seg → Option (List Seg)) (cause : Refusal) (m : Member) (slot : ℕ)
    (answer : Result ℕ Refusal) (after : Member) (s t : Side) →
    Resizes change cause m slot answer after → t ≡ s → ResizedSame s t m (answer, after)
resized_same change cause m slot answer after s t h e =
    subst (ResizedSame s t m) (sym h)
    (resize_in-same s t e (get_or m.table slot None) change cause slot m)

-- what is to hold of a chain that is refused: all is as it was
abbrev ChainedSame : Side → Side → ℕ → Member → Result (Unit {0}) Refusal × Member → Type 0
ChainedSame s t head m done = IfRefused (chained done.0 (get_or done.1.table head None)) ((t ≡ s) × (done.1 ≡ m))

-- Each cause of a chain's refusal leaves the worker as it was, and a head was there else.
chain_in-same : (s t : Side) → t ≡ s → (one two : Option (List Seg)) (head tail : ℕ) (m : Member) →
    get_or m.table head None ≡ one → ChainedSame s t head m (chain_in one two head tail m)
chain_in-same s t e None two head tail m there = (e, refl)
chain_in-same s t e (Some first) None head tail m there = (e, refl)
chain_in-same s t e (Some first) (Some second) head tail m there = elim (cases_Bool (head == tail)) [
  | inl both ↦ rw both (e, refl)
  | inr apart ↦ elim (cases_Bool (nat_lt max_segs (length first + length second))) [
    | inl long ↦ rw (apart, long) (e, refl)
    | inr few ↦
        let joined = set m.table head (Some (first ++ second)) in
        let other : head ≢ tail = eqb-false head tail apart in
        let stands : get_or (set joined tail None) head None ≡ Some (first ++ second) =
        get_or-set_other joined tail head None None other
        ∙ get_or-set_same m.table head (Some (first ++ second)) None
        (stands_within m.table head first there) in
        rw (apart, few, stands) tt
  ]
]

-- of the packet that two became more is told than a refusal
pub chained_same : (m : Member) (head tail : ℕ) (answer : Result (Unit {0}) Refusal)
    (after : Member) (s t : Side) → Chains m head tail answer after → t ≡ s →
    ChainedSame s t head m (answer, after)
chained_same m head tail answer after s t h e =
    subst (ChainedSame s t head m) (sym h)
    (chain_in-same s t e (get_or m.table head None) (get_or m.table tail None) head tail m refl)

-- a refused clone leaves all of the worker but its cache
pub clone_refused : (m : Member) (source : ℕ) (calls : List Call) (cause : Refusal) (after : Member)
    → Clones m source calls (Err cause) after → after ≡ record m { cache = after.cache }
clone_refused m source calls cause after (NotClonable why f c a k) = rw k refl
clone_refused m source calls cause after (WasGivenUp segs slot f why left g a k) = rw k refl
clone_refused m source calls cause after (WasCloned segs slot f new left g a k) = absurd cc

-- once two packets are chained, a packet stands in the slot of the head
pub chained_none : (m : Member) (head tail : ℕ) (after : Member) (s t : Side) →
    Chains m head tail (Ok tt) after → t ≡ s → get_or after.table head None ≡ None →
    (t ≡ s) × (after ≡ m)
chained_none m head tail after s t h e none =
    subst (λ (slot : Option (List Seg)). IfRefused (chained (Ok tt) slot) ((t ≡ s) × (after ≡ m)))
    none (chained_same m head tail (Ok tt) after s t h e)

-- A packet that was taken is told of, so nothing is refused.
pub taken_told : (slot : ℕ) (there : Option (List Seg)) (P : Type 0) → IsSome there →
    IfRefused (told_taken slot there) P
taken_told slot None P some = absurd cc
taken_told slot (Some segs) P some = tt
