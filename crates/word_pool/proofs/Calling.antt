-- What one call of a worker's packets over words leaves of the worker.
use Rattle.std.proofs.Common.{◌≡◌, ℕ, List, [], ◌∷◌, Result, Ok, Err, refl, ap, sym, ◌∙◌, subst}
use Rattle.std.specs.Prelude.{IfOk, OnErr, OnOk, length}
use Rattle.commons.specs.Calls.{Call, Made, Leads, Side, calls_of, with_list}
use Rattle.commons.specs.declared.refusal.Refusal.{Refusal}
use Rattle.ground.specs.Seats.{Seated}
use Rattle.mbuf.specs.Acts.{Performs, Reply, allocated, allocated_bulk, cloned, freed}
use Rattle.mbuf.specs.Fresh.{AreFresh, new_elements, own_in_slots}
use Rattle.mbuf.specs.Members.{Member, slots}
use Rattle.mbuf.specs.Own.{Own, no_guests}
use Rattle.mbuf.specs.PacketRules.{Allocs, AllocsBulk}
use Rattle.mbuf.specs.Refused.{AsBefore, IfRefused}
use Rattle.mbuf.specs.Sharing.{Clones}
use Rattle.mbuf.specs.declared.acts.Act.{Act}
use Rattle.mbuf.specs.declared.acts.Act.TheVariants.{Alloc, AllocBulk, ClonePacket, Free}
use Rattle.mbuf.specs.declared.freed.Freed.{Freed}
use Rattle.mbuf.proofs.FreshLemmas.{allocated_elements, bulk_elements, fresh_none, fresh_packets, slot_elements}
use Rattle.mbuf.proofs.MemberLemmas.{performs_keeps}
use Rattle.mbuf.proofs.RefusedLemmas.{clone_refused}
use Rattle.stack_lf.specs.Sides.{side_of}
use Rattle.stack_lf.specs.declared.lent.LentWords.{LentWords}
use Rattle.word_pool.specs.Workers.{Acts, IsIdle}
use Rattle.word_pool.proofs.Leading.{DidByLent, acted, leads_sits, of_lent, side_by_lent}

-- the seat has taken the steps of all calls, from where it was
pub left_idle : (s : Seated) (before : LentWords) (made : List Made) (after : LentWords) (m n : Member) →
    before.seat.now ≡ s → Leads DidByLent side_by_lent before made after → IsIdle (record { seat = s; member = m }) →
    (Own m (side_by_lent before) → Own n (side_by_lent after)) →
    IsIdle (record { seat = after.seat.now; member = n })
left_idle s before made after m n there led idle keeps =
    let sits = leads_sits before.seat.now made after.seat.now (of_lent before made after led).1 in
    record {
      rest = after.rest;
      slots = sits.slots ∙ (ap (λ (x : Seated). x.slots) there ∙ idle.slots);
      own = keeps (subst (λ (x : Seated). Own m (side_of x)) (sym there) idle.own);
    }

-- what the calls did over the words is what the act did to seat and packets
pub did_act : (act : Act) (r : Reply) (s : Seated) (before : LentWords) (made : List Made) (after : LentWords)
    (m n : Member) → before.seat.now ≡ s → Own m (side_of s) → length m.table ≡ slots →
    Leads DidByLent side_by_lent before made after → Performs act m (calls_of made) r n →
    AreFresh m.limits.population (side_by_lent before).holds (new_elements r) →
    IfRefused r (AsBefore act m (side_by_lent before) n (side_by_lent after)) →
    Acts act (record { seat = s; member = m }) r (record { seat = after.seat.now; member = n })
did_act act r s before made after m n there own wide led did fresh refused =
    acted act r s before.seat.now after.seat.now after.seat.now m n made there refl (of_lent before made after led).1 did
    (fresh_packets no_guests m (side_by_lent before) m.limits.population (new_elements r)
    (subst (λ (x : Seated). Own m (side_of x)) (sym there) own) fresh)
    refused (performs_keeps act m (calls_of made) r n did wide)

-- ---- what an alloc gives, and what a refused one leaves

pub alloc_fresh : (m after : Member) (calls : List Call) (held : ℕ → ℕ) (answer : Result ℕ Refusal) →
    Allocs m calls answer after →
    IfOk answer (λ slot. AreFresh m.limits.population held (own_in_slots after.table (slot ∷ []))) →
    AreFresh m.limits.population held (new_elements (allocated answer after.table))
alloc_fresh m after calls held (Ok slot) did fresh =
    subst (λ (es : List ℕ). AreFresh m.limits.population held es) (allocated_elements m after calls slot did) fresh
alloc_fresh m after calls held (Err cause) did fresh = fresh_none _ _

pub alloc_refused : (m after : Member) (s t : Side) (answer : Result ℕ Refusal) →
    OnErr answer ((t ≡ s) × (after ≡ m)) → IfRefused (allocated answer after.table) (AsBefore Alloc m s after t)
alloc_refused m after s t (Ok slot) so = tt
alloc_refused m after s t (Err cause) so = so

-- ---- of a bulk

pub bulk_fresh : (m after : Member) (n : ℕ) (calls : List Call) (held : ℕ → ℕ) (given : List ℕ)
    (answer : Result (Unit {0}) Refusal) → AllocsBulk m n calls (with_list answer given) after →
    OnOk answer (AreFresh m.limits.population held (own_in_slots after.table given)) →
    AreFresh m.limits.population held (new_elements (allocated_bulk (with_list answer given) after.table))
bulk_fresh m after n calls held given (Ok _) did fresh =
    subst (λ (es : List ℕ). AreFresh m.limits.population held es) (bulk_elements m after n calls given did) fresh
bulk_fresh m after n calls held given (Err cause) did fresh = fresh_none _ _

pub bulk_refused : (m after : Member) (n : ℕ) (s t : Side) (given : List ℕ) (answer : Result (Unit {0}) Refusal) →
    OnErr answer ((t ≡ s) × (after ≡ m)) →
    IfRefused (allocated_bulk (with_list answer given) after.table) (AsBefore (AllocBulk n) m s after t)
bulk_refused m after n s t given (Ok _) so = tt
bulk_refused m after n s t given (Err cause) so = so

-- ---- of a free, which gives nothing new

pub free_fresh : (population : ℕ) (held : ℕ → ℕ) (answer : Result Freed Refusal) →
    AreFresh population held (new_elements (freed answer))
free_fresh population held (Ok done) = fresh_none _ _
free_fresh population held (Err cause) = fresh_none _ _

pub free_refused : (m after : Member) (slot : ℕ) (s t : Side) (answer : Result Freed Refusal) →
    OnErr answer ((t ≡ s) × (after ≡ m)) → IfRefused (freed answer) (AsBefore (Free slot) m s after t)
free_refused m after slot s t (Ok done) so = tt
free_refused m after slot s t (Err cause) so = so

-- ---- of a clone

pub clone_fresh : (m after : Member) (held : ℕ → ℕ) (answer : Result ℕ Refusal) →
    IfOk answer (λ slot. AreFresh m.limits.population held (own_in_slots after.table (slot ∷ []))) →
    AreFresh m.limits.population held (new_elements (cloned answer after.table))
clone_fresh m after held (Ok slot) fresh =
    subst (λ (es : List ℕ). AreFresh m.limits.population held es) (slot_elements after.table slot) fresh
clone_fresh m after held (Err cause) fresh = fresh_none _ _

pub clone_keeps : (m after : Member) (source : ℕ) (calls : List Call) (s t : Side) (answer : Result ℕ Refusal) →
    Clones m source calls answer after →
    OnErr answer ((i : ℕ) → t.holds i ≡ s.holds i) → OnErr answer ((i : ℕ) → t.headers i ≡ s.headers i) →
    IfRefused (cloned answer after.table) (AsBefore (ClonePacket source) m s after t)
clone_keeps m after source calls s t (Ok slot) did holds headers = tt
clone_keeps m after source calls s t (Err cause) did holds headers = record {
  packets = clone_refused m source calls cause after did;
  holds = holds;
  headers = headers;
}
