-- What each step on the stack or on a count answers its seat.
use Rattle.std.specs.Prelude.{◌≡◌, ◌≢◌, ℕ, ◌-◌, ◌<◌, ◌≤◌, ◌==◌, Bool, true, false, List, [], ◌∷◌, ◌++◌, Option, None}
use Rattle.atomic_table.specs.Table as table
use Rattle.head_word.specs.Heads.{low_in, no_low}
use Rattle.commons.specs.Bag.{bag}
use Rattle.commons.specs.declared.packet.Seg.{Seg}
use Rattle.step_core.specs.declared.step.Step.{Step}
use Rattle.step_core.specs.declared.step.Step.TheVariants.{LoadLength, Reserve, Add, LoadHead, LoadLink, Cut, StoreLink, Push, Claim, Sole, Raise, Lower, Reset}
use Rattle.step_core.specs.declared.step.Outcome.{Outcome}
use Rattle.step_core.specs.declared.step.Outcome.TheVariants.{Value, HeadIs, Won, Got, Lost, LostTo, Done}
use Rattle.step_core.specs.Views.{view_after}
use Rattle.ground.specs.declared.known.Known.{Known}
use Rattle.ground.specs.Changing.{KnowsChanges, KnowsOpening}
use Rattle.ground.specs.Layout.{unpack, element_linked_at, element_counted_at}
use Rattle.ground.specs.Own.{Owned, AtDesk, KnowsDesks}
use Rattle.ground.specs.Parting.{no_parcel, with_parcel, with_holds, with_own}
use Rattle.ground.specs.Rule.{Slot, Sat}
use Rattle.ground.specs.Seats.{KnowsLength, KnowsEnd, KnowsCount, front_of, count_of, element_of}
use Rattle.step_core.specs.World.{every_part}

-- the seat after a step, with its slots as they were
abbrev pub noted : Step → Outcome → Sat → Sat
noted st o m = (
  record {
    view = view_after None st o m.0.view;
    steps = m.0.steps ++ (st, o) ∷ [];
    limits = m.0.limits;
    lying = m.0.lying;
    joined = m.0.joined;
    loan = m.0.loan;
    parcel = m.0.parcel;
  },
  m.1,
)

-- the seat has noted the step, and learns what is true of its new view by itself, that the slot of
-- its busy desk is out with it and no other is, and that it knows the desks, if it is the only seat
abbrev pub Noted : Step → Outcome → Sat → Sat → Type 0
Noted st o m m' =
    (m' ≡ noted st o m) × Owned m.0.limits (view_after None st o m.0.view)
    × AtDesk (view_after None st o m.0.view).work m.1 × KnowsDesks (noted st o m).0

-- the outcome of an exchange by whether it found what it expected
abbrev pub exchanged : Bool → ℕ → Outcome
exchanged true found = Won
exchanged false found = Lost found

abbrev pub cut_found : Bool → List ℕ → ℕ → Outcome
cut_found true front found = Got front
cut_found false front found = LostTo (unpack found)

abbrev pub push_found : Bool → ℕ → Outcome
push_found true found = Won
push_found false found = LostTo (unpack found)

-- an exchange of the head that lost found a head, and a later one than was looked at
abbrev pub IsLater : Bool → Known → ℕ → Type 0
IsLater true n found = Unit {0}
IsLater false n found = (low_in found < no_low) × (count_of n.view.look < (unpack found).count)

-- where an exchange of the head lost, its seat isn't the only one of its pool
abbrev pub IsShared : Bool → Known → Type 0
IsShared true n = Unit {0}
IsShared false n = n.view.part ≢ every_part n.limits

abbrev pub loaded_length : table.Step Slot → Sat → ℕ → Sat → Type 0
loaded_length st m found m' =
    Noted LoadLength (Value found) m m' × (found ≤ m.0.limits.population)
    × KnowsLength m.0 found

abbrev pub reserved : table.Step Slot → Sat → ℕ → Sat → Type 0
reserved st m found m' =
    Noted (Reserve st.first (st.first - st.second)) (exchanged (found == st.first) found) m m'
    × KnowsLength m.0 found

abbrev pub added : table.Step Slot → Sat → ℕ → Sat → Type 0
added st m found m' = Noted (Add st.first) Done m m'

abbrev pub loaded_head : table.Step Slot → Sat → ℕ → Sat → Type 0
loaded_head st m found m' =
    Noted LoadHead (HeadIs (unpack found)) m m' × (low_in found ≤ m.0.limits.population)
    × (m.0.view.seen ≤ (unpack found).count) × KnowsChanges m.0 (unpack found).count
    × KnowsOpening m.0 (unpack found)
    × KnowsEnd m.0.limits (view_after None LoadHead (HeadIs (unpack found)) m.0.view)

abbrev pub loaded_link : table.Step Slot → Sat → ℕ → Sat → Type 0
loaded_link st m found m' =
    Noted (LoadLink (element_linked_at st.word)) (Value found) m m' × (found ≤ m.0.limits.population)
    × KnowsEnd m.0.limits (view_after None (LoadLink (element_linked_at st.word)) (Value found) m.0.view)

abbrev pub cut_answers : table.Step Slot → Sat → ℕ → Sat → Type 0
cut_answers st m found m' =
    Noted Cut (cut_found (found == st.first) (front_of m.0.view.look) found) m m'
    × IsLater (found == st.first) m.0 found × IsShared (found == st.first) m.0

abbrev pub stored_link : table.Step Slot → Sat → ℕ → Sat → Type 0
stored_link st m found m' = Noted (StoreLink (element_linked_at st.word) (element_of st.first)) Done m m'

abbrev pub push_answers : table.Step Slot → Sat → ℕ → Sat → Type 0
push_answers st m found m' =
    Noted Push (push_found (found == st.first) found) m m'
    × IsLater (found == st.first) m.0 found × IsShared (found == st.first) m.0

-- A load that only looks answers what is true of the seat's view by itself, and the only seat of a
-- pool what lies on the desks.
abbrev pub looked : table.Step Slot → Sat → ℕ → Sat → Type 0
looked st m found m' =
    (lying : Option (List (Option (List Seg)))) × (m' ≡ (record m.0 { lying = lying }, m.1))
    × Owned m.0.limits m.0.view × KnowsDesks (record m.0 { lying = lying })

-- A load of an element's link chooses the element: the seat lends this one next.
abbrev pub chosen : table.Step Slot → Sat → ℕ → Sat → Type 0
chosen st m found m' = m' ≡ (record m.0 { loan = element_linked_at st.word }, m.1)

-- A load of the word that nobody writes begins the notes of a packet: nothing is noted yet. A load
-- of an element's link notes the element: as the base of a segment, or as a segment's own.
abbrev pub begun : table.Step Slot → Sat → ℕ → Sat → Type 0
begun st m found m' = m' ≡ with_parcel no_parcel m

abbrev pub base_noted : table.Step Slot → Sat → ℕ → Sat → Type 0
base_noted st m found m' =
    m' ≡ with_parcel (with_holds (element_linked_at st.word ∷ []) m.0.parcel) m

abbrev pub own_noted : table.Step Slot → Sat → ℕ → Sat → Type 0
own_noted st m found m' =
    m' ≡ with_parcel (with_own (element_linked_at st.word) m.0.parcel) m

-- ---- the counts: the element is the one whose count the word is

abbrev pub counted_by : table.Step Slot → Known → ℕ
counted_by st n = element_counted_at n.limits.population st.word

abbrev pub claim_answers : table.Step Slot → Sat → ℕ → Sat → Type 0
claim_answers st m found m' = Noted (Claim (counted_by st m.0)) (Value found) m m' × (found ≡ 1)

abbrev pub sole_answers : Bool → table.Step Slot → Sat → ℕ → Sat → Type 0
sole_answers free st m found m' =
    Noted (Sole (counted_by st m.0) free) (Value found) m m'
    × (bag m.0.view.holds (counted_by st m.0) ≤ found) × (found ≤ m.0.limits.ref_limit)
    × KnowsCount m.0 (counted_by st m.0) found

abbrev pub raise_answers : table.Step Slot → Sat → ℕ → Sat → Type 0
raise_answers st m found m' =
    Noted (Raise (counted_by st m.0) st.first) (exchanged (found == st.first) found) m m'
    × KnowsCount m.0 (counted_by st m.0) found

abbrev pub lower_answers : table.Step Slot → Sat → ℕ → Sat → Type 0
lower_answers st m found m' =
    Noted (Lower (counted_by st m.0)) (Value found) m m'
    × (bag m.0.view.holds (counted_by st m.0) ≤ found) × (found ≤ m.0.limits.ref_limit)
    × KnowsCount m.0 (counted_by st m.0) found

abbrev pub reset_answers : table.Step Slot → Sat → ℕ → Sat → Type 0
reset_answers st m found m' = Noted (Reset (counted_by st m.0)) Done m m'
