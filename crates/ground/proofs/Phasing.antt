-- How far a worker is with a desk, by what it knows and by what its slot has.
use Rattle.std.proofs.Common.{◌≡◌, ◌==◌, ℕ, Bool, true, false, List, [], ◌∷◌, Option, Some, None, refl, ap, ◌∙◌, subst}
use Rattle.std.specs.Prelude.{if◌then◌else◌}
use Rattle.std.proofs.lemmas.Bool.{eqb-true}
use Rattle.commons.specs.declared.packet.Seg.{Seg}
use Rattle.commons.specs.Packets.{IsPacket}
use Rattle.step_core.specs.Views.{at_desk, phase_at}
use Rattle.step_core.specs.declared.view.Phase.{Phase}
use Rattle.step_core.specs.declared.view.Phase.TheVariants.{ToFill, Filled, Seized, TakenOut}
use Rattle.step_core.specs.declared.view.Work.{Work}
use Rattle.ground.specs.Own.{IsSince, AtDesk}
use Rattle.ground.specs.Rule.{Slot}
use Rattle.ground.specs.Seats.{phase_by, work_by}

of_some : {A : Type 0} → A → Option A → A
of_some a None = a
of_some a (Some x) = x

packet_of : Phase → List Seg
packet_of ToFill = []
packet_of (Filled p) = p
packet_of (Seized p) = p
packet_of TakenOut = []

-- what stands behind a phase that is seen: the work as the seat knows it, and the slot
pub record Stands (o : Option Work) (slots : List (ℕ × Slot)) (d : ℕ) (ph : Phase) : Type 0 where
  pub phase : Phase
  pub slot : Slot
  pub work : o ≡ at_desk d phase
  pub out : slots ≡ (d, slot) ∷ []
  pub since : IsSince phase slot
  pub seen : phase_by phase slot ≡ ph

stands_if : (test : Bool) (x y : Phase) → (if test then Some x else None) ≡ Some y →
    (test ≡ true) × (x ≡ y)
unfolding of_some
stands_if true x y e = (refl, ap (of_some x) e)
stands_if false x y e = absurd (cc e)

pub stands : (o : Option Work) (slots : List (ℕ × Slot)) (d : ℕ) (ph : Phase) → AtDesk o slots →
    phase_at d (work_by o slots) ≡ Some ph → Stands o slots d ph
stands None slots d ph at e = absurd (cc e)
stands (Some x) slots d ph at e =
    let seen : phase_at d (work_by (Some x) ((x.desk, at.0) ∷ [])) ≡ Some ph =
    subst (λ (c : List (ℕ × Slot)). phase_at d (work_by (Some x) c) ≡ Some ph) at.1 e in
    let both = stands_if (x.desk == d) (phase_by x.phase at.0) ph seen in
    let same : x.desk ≡ d = eqb-true x.desk d both.0 in
    record {
      phase = x.phase;
      slot = at.0;
      work = λ i. Some (record { desk = same i; phase = x.phase });
      out = at.1 ∙ (λ i. (same i, at.0) ∷ []);
      since = at.2;
      seen = both.1;
    }

-- a filled desk is one to be filled, and what is in the slot
filled_from : (x : Phase) (slot : Slot) (p : List Seg) → IsSince x slot → phase_by x slot ≡ Filled p →
    (x ≡ ToFill) × (slot ≡ Some p) × IsPacket p
unfolding packet_of
filled_from ToFill None p h e = absurd (cc e)
filled_from ToFill (Some q) p h e =
    (refl, ap (λ (ph : Phase). Some (packet_of ph)) e, subst IsPacket (ap packet_of e) h)
filled_from (Filled q) slot p h e = absurd h
filled_from (Seized q) None p h e = absurd (cc e)
filled_from (Seized q) (Some q') p h e = absurd (cc e)
filled_from TakenOut slot p h e = absurd h

pub filled_at : (o : Option Work) (slots : List (ℕ × Slot)) (d : ℕ) (p : List Seg) → AtDesk o slots →
    phase_at d (work_by o slots) ≡ Some (Filled p) →
    (o ≡ at_desk d ToFill) × (slots ≡ (d, Some p) ∷ []) × IsPacket p
filled_at o slots d p at e =
    let s = stands o slots d (Filled p) at e in
    let both = filled_from s.phase s.slot p s.since s.seen in (
      s.work ∙ ap (λ (ph : Phase). at_desk d ph) both.0,
      s.out ∙ ap (λ (x : Slot). (d, x) ∷ []) both.1,
      both.2,
    )

-- a desk whose packet is out was seized, and its slot has nothing
taken_from : (x : Phase) (slot : Slot) → IsSince x slot → phase_by x slot ≡ TakenOut →
    (p : List Seg) × (x ≡ Seized p) × (slot ≡ None)
taken_from ToFill None h e = absurd (cc e)
taken_from ToFill (Some q) h e = absurd (cc e)
taken_from (Filled q) slot h e = absurd h
taken_from (Seized q) None h e = (q, refl, refl)
taken_from (Seized q) (Some q') h e = absurd (cc e)
taken_from TakenOut slot h e = absurd h

pub taken_at : (o : Option Work) (slots : List (ℕ × Slot)) (d : ℕ) → AtDesk o slots →
    phase_at d (work_by o slots) ≡ Some TakenOut →
    (p : List Seg) × (o ≡ at_desk d (Seized p)) × (slots ≡ (d, None) ∷ [])
taken_at o slots d at e =
    let s = stands o slots d TakenOut at e in
    let all = taken_from s.phase s.slot s.since s.seen in (
      all.0,
      s.work ∙ ap (λ (ph : Phase). at_desk d ph) all.1,
      s.out ∙ ap (λ (x : Slot). (d, x) ∷ []) all.2,
    )
