-- What a player sees of the desk that its seat works at.
use Rattle.std.proofs.Common.{◌≡◌, ◌==◌, ℕ, Option, Some, None, List, [], ◌∷◌, refl, sym, ap, ◌∙◌, subst}
use Rattle.std.proofs.lemmas.Bool.{cond-true, eq-eqb}
use Rattle.commons.specs.declared.packet.Seg.{Seg}
use Rattle.commons.specs.Packets.{holds_of_packet}
use Rattle.step_core.specs.Bags.{Includes}
use Rattle.step_core.specs.Headers.{OwnsHeaders}
use Rattle.step_core.specs.Views.{at_desk, phase_at}
use Rattle.step_core.specs.declared.view.Phase.{Phase}
use Rattle.step_core.specs.declared.view.Phase.TheVariants.{ToFill, Filled, Seized}
use Rattle.step_core.specs.declared.view.View.{View}
use Rattle.step_core.specs.declared.view.Work.{Work}
use Rattle.ground.specs.DeskSeats.{MayOpen}
use Rattle.ground.specs.Seats.{Seated, view_with_slot, work_by, phase_by}
use Rattle.ground_tests.specs.Playing.{Mirrors, IsOfSeat, slots_at, slots_by, known_by, packet_in, with_packet}
use Rattle.ground_tests.specs.declared.sees.Sees.{Sees}
use Rattle.ground_tests.specs.declared.sees.Sees.TheVariants as sees

phase_here : (d : ℕ) (ph : Phase) → phase_at d (at_desk d ph) ≡ Some ph
phase_here d ph = cond-true (d == d) (Some ph) None (eq-eqb d d refl)

-- how far the seat is, by the phase that the view has and by the slot
pub phase_of : (d : ℕ) (ph : Phase) (v : View) (slot : Option (List Seg)) (s : Seated) →
    Mirrors v slot s → v.work ≡ at_desk d ph →
    phase_at d (view_with_slot s).work ≡ Some (phase_by ph slot)
phase_of d ph v slot s m e =
    ap (λ (w : View). phase_at d (work_by w.work s.slots)) (sym m.view)
    ∙ (ap (λ (l : List (ℕ × Option (List Seg))). phase_at d (work_by v.work l)) m.slots
    ∙ (ap (λ (w : Option Work). phase_at d (work_by w (slots_at w slot))) e
    ∙ phase_here d (phase_by ph slot)))

-- the desk that the view has to fill is filled, where a packet is in the slot
pub filled : (d : ℕ) (p : List Seg) (v : View) (slot : Option (List Seg)) (s : Seated) →
    Mirrors v slot s → v.work ≡ at_desk d ToFill → slot ≡ Some p →
    phase_at d (view_with_slot s).work ≡ Some (Filled p)
filled d p v slot s m e some =
    phase_of d ToFill v slot s m e
    ∙ ap (λ (x : Option (List Seg)). Some (phase_by ToFill x)) some

pub may_open : (d : ℕ) (p : List Seg) (v : View) (slot : Option (List Seg)) (s : Seated) →
    Mirrors v slot s → v.work ≡ at_desk d ToFill → slot ≡ Some p →
    Includes v.holds (holds_of_packet p) → OwnsHeaders v p → MayOpen d (view_with_slot s)
may_open d p v slot s m e some held own = record {
  packet = p;
  phase = filled d p v slot s m e some;
  held = subst (λ (w : View). Includes w.holds (holds_of_packet p)) m.view held;
  owned = subst (λ (w : View). OwnsHeaders w p) m.view own;
}

-- a desk that the player has seized has its packet in the slot
pub seized_phase : (x : Sees) (d : ℕ) (v : View) (slot : Option (List Seg)) (s : Seated) →
    IsOfSeat x v slot s → x ≡ sees.Seizure d →
    (p : List Seg) × (phase_at d (view_with_slot s).work ≡ Some (Seized p))
seized_phase x d v slot s m e =
    let p : List Seg = packet_in s.slots in
    let known : s.known.view ≡ with_packet d p v = m.known ∙ ap (λ (y : Sees). known_by y v p) e in
    let slots : s.slots ≡ (d, Some p) ∷ [] =
    m.slots ∙ ap (λ (y : Sees). slots_by y v slot p) e in (
      p,
      ap (λ (w : View). phase_at d (work_by w.work s.slots)) known
          ∙ (ap (λ (l : List (ℕ × Option (List Seg))).
          phase_at d (work_by (at_desk d (Seized p)) l)) slots
          ∙ phase_here d (Seized p)),
    )
