-- A ground and a seat as contracts see them, and what a step makes of what a seat knows.
use Rattle.std.specs.Prelude.{◌≡◌, ℕ, zero, suc, min, ◌+◌, ◌<◌, ◌≤◌, List, [], ◌∷◌, ◌++◌, length, Option, Some, None}
use Rattle.std.specs.Prelude.{IfSome, flat_map, option_map, slice_index_or, slice_set, Result, Ok, Err}
use Rattle.atomic_table.specs.Seated.{TableId}
use Rattle.commons.specs.Bag.{bag}
use Rattle.commons.specs.declared.limits.Limits.{Limits}
use Rattle.commons.specs.declared.packet.Seg.{Seg}
use Rattle.commons.specs.Packets.{IsPacket, held_in, holds_in_slot, own_in}
use Rattle.step_core.specs.declared.view.Head.{Head}
use Rattle.step_core.specs.declared.view.Look.{Look}
use Rattle.step_core.specs.declared.view.Phase.{Phase}
use Rattle.step_core.specs.declared.view.Phase.TheVariants.{ToFill, Filled, Seized, TakenOut}
use Rattle.step_core.specs.declared.view.View.{View}
use Rattle.step_core.specs.declared.view.Work.{Work}
use Rattle.step_core.specs.declared.step.Step.{Step}
use Rattle.step_core.specs.declared.step.Outcome.{Outcome}
use Rattle.step_core.specs.declared.step.Outcome.TheVariants.{Won, Got, Lost, LostTo}
use Rattle.step_core.specs.Views.{view_after}
use Rattle.ground.specs.declared.known.Known.{Known}
use Rattle.step_core.specs.World.{every_part}

-- A seat: its table and number, what it knows, and the slots that are out with it. Its view has a
-- part, and all parts together are a worker's part for each worker: a seat that has every part is
-- the only seat of its pool, beside which no other acts.
pub record Seated : Type 0 where
  pub table : TableId
  pub id : ℕ
  pub known : Known
  pub slots : List (ℕ × Option (List Seg))

pub record Grounded : Type 0 where
  pub table : TableId
  pub limits : Limits

-- the seat is one of this ground
pub record IsOf (g : Grounded) (s : Seated) : Type 0 where
  pub table : s.table ≡ g.table
  pub limits : s.known.limits ≡ g.limits

-- how far a worker is, by what it knew at its last step on a word and by what is in the slot since
abbrev pub phase_by : Phase → Option (List Seg) → Phase
phase_by ToFill None = ToFill
phase_by ToFill (Some p) = Filled p
phase_by (Filled p) slot = Filled p
phase_by (Seized p) None = TakenOut
phase_by (Seized p) (Some q) = Seized q
phase_by TakenOut slot = TakenOut

abbrev pub work_by : Option Work → List (ℕ × Option (List Seg)) → Option Work
work_by None slots = None
work_by (Some x) [] = Some x
work_by (Some x) (slot ∷ slots) = Some (record { desk = x.desk; phase = phase_by x.phase slot.1 })

-- The view of a seat, read off what it knows and its slots together: what it knows changes at
-- steps on words alone, and a packet goes into a slot and out of it between them.
abbrev pub view_with_slot : Seated → View
view_with_slot s = record s.known.view { work = work_by s.known.view.work s.slots }

-- a step with its outcome
abbrev pub Note : Type 0
Note = Step × Outcome

-- the seat with this view, and with these steps taken in addition
abbrev pub after : Seated → List Note → View → Seated
after s notes v = record s {
  known = record s.known { view = v; steps = s.known.steps ++ notes };
}

-- the seat took this step, with this outcome, and its view is as the step leaves it
abbrev pub Steps : Step → Outcome → Seated → Seated → Type 0
Steps st o s t = t ≡ after s ((st, o) ∷ []) (view_after None st o s.known.view)

-- the outcome of an exchange by its answer: of a count or the length, of a cut with this front, of
-- a push
abbrev pub outcome_of : Result (Unit {0}) ℕ → Outcome
outcome_of (Ok _) = Won
outcome_of (Err found) = Lost found

abbrev pub cut_outcome : Result (Unit {0}) Head → List ℕ → Outcome
cut_outcome (Ok _) front = Got front
cut_outcome (Err found) front = LostTo found

abbrev pub push_outcome : Result (Unit {0}) Head → Outcome
push_outcome (Ok _) = Won
push_outcome (Err found) = LostTo found

abbrev pub front_of : Option Look → List ℕ
front_of None = []
front_of (Some l) = l.front

abbrev pub count_of : Option Look → ℕ
count_of None = 0
count_of (Some l) = l.head.count

-- the element that a link value names
abbrev pub element_of : ℕ → Option ℕ
element_of zero = None
element_of (suc i) = Some i

-- how many of the first n are in the bag
abbrev pub held_below : ℕ → List ℕ → ℕ
held_below zero xs = 0
held_below (suc n) xs = held_below n xs + min 1 (bag xs n)

-- what lies on a desk, by what lies on all
abbrev pub on_desk : List (Option (List Seg)) → ℕ → Option (List Seg)
on_desk desks d = slice_index_or desks d None

-- What may lie on the desks beside a view: on each desk of the pool a packet, or nothing. A packet
-- has 1 to 32 segments, each with its data within its buffer. The packets hold elements of the pool
-- alone, and none that is in the hand; with the view's own holds no element is held more often than
-- the reference limit says; none is an own one of two segments, or of one and a header of the view;
-- and the desk that the view works at isn't full.
pub record MayLie (l : Limits) (v : View) (desks : List (Option (List Seg))) : Type 0 where
  pub as_many : length desks ≡ l.desks
  pub packets : (d : ℕ) → IfSome (on_desk desks d) IsPacket
  pub below : (i : ℕ) → l.population ≤ i → held_in desks i ≡ 0
  pub apart : (i : ℕ) → 0 < held_in desks i → bag v.hand i + bag v.zeros i ≡ 0
  pub limited : (i : ℕ) → bag v.holds i + held_in desks i ≤ l.ref_limit
  pub own_once : (i : ℕ) → bag v.headers i + own_in desks i ≤ 1
  pub work : IfSome v.work (λ x. on_desk desks x.desk ≡ None)

-- The only seat of a pool knows what lies on the desks, and so the length word: it is the
-- population without the hand, the credit, and the elements that are held, each once, by the seat
-- or by a packet on a desk.
abbrev pub KnowsLength : Known → ℕ → Type 0
KnowsLength n found =
    n.view.part ≡ every_part n.limits →
    (desks : List (Option (List Seg))) × (n.lying ≡ Some desks) × MayLie n.limits n.view desks
    × (found + n.view.credit + length n.view.hand + length n.view.zeros
    + held_below n.limits.population (n.view.holds ++ flat_map holds_in_slot desks) ≡ n.limits.population)

-- the only seat of a pool knows that a walk to the end of the list has passed all that is reserved
abbrev pub KnowsEnd : Limits → View → Type 0
KnowsEnd l v = v.part ≡ every_part l → IfSome v.look (λ k. k.next ≡ 0 → v.credit ≤ length k.front)

-- The only seat of a pool knows the count of each element that it holds, which is how often it and
-- the packets on desks do.
abbrev pub KnowsCount : Known → ℕ → ℕ → Type 0
KnowsCount n i count =
    n.view.part ≡ every_part n.limits →
    (desks : List (Option (List Seg))) × (n.lying ≡ Some desks) × MayLie n.limits n.view desks
    × (count ≡ bag n.view.holds i + held_in desks i)

-- what is known to lie on the desks, once this lies on desk d
abbrev pub laid_on : ℕ → Option (List Seg) → Option (List (Option (List Seg))) →
    Option (List (Option (List Seg)))
laid_on d slot known = option_map (λ desks. slice_set desks d slot) known

-- a seat that knows what lies on the desks knows that this lies on desk d, that nothing does, or
-- that a packet does
abbrev pub KnowsThere : ℕ → List Seg → Known → Type 0
KnowsThere d p n = IfSome n.lying (λ desks. on_desk desks d ≡ Some p)

abbrev pub KnowsEmpty : ℕ → Known → Type 0
KnowsEmpty d n = IfSome n.lying (λ desks. on_desk desks d ≡ None)

abbrev pub KnowsFull : ℕ → Known → Type 0
KnowsFull d n = IfSome n.lying (λ desks. (p : List Seg) × (on_desk desks d ≡ Some p))
