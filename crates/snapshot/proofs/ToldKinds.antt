-- What each pass adds is what is told of its kind.
use Rattle.std.proofs.Common.{ℕ, ◌≡◌, ◌+◌, ◌<◌, ◌≤◌, Bool, List, length, refl, sym, ap, ◌∙◌, inr, arith}
use Rattle.std.specs.Prelude.{IsTrue, max, min, slice_index, ◌↔◌}
use Rattle.commons.specs.Bag.{bag}
use Rattle.snapshot.specs.declared.fault.Fault.{Fault}
use Rattle.snapshot.specs.declared.fault.Fault.TheVariants.{BadElem, BadPacket, DoubleHeader, Doubled, Lost, BadCount, OutOfMemory}
use Rattle.snapshot.specs.declared.snapshot.Snapshot.{Snapshot}
use Rattle.snapshot.specs.declared.tally.tables.Tally.{Tally}
use Rattle.snapshot.specs.AllFaults.{times_free_on, uncounted}
use Rattle.snapshot.specs.Faults.{IsFault, rank}
use Rattle.snapshot.specs.Snapshots.{HasShape, times_held, times_named, times_own}
use Rattle.snapshot.specs.inside.Notes.{Adds, AddsBelow, AddsEach, IsDouble, IsLate, IsMiscounted, IsNowhere, IsRepeated}
use Rattle.snapshot.specs.inside.Tallies.{IsRow, IsTally}
use Rattle.snapshot.proofs.Notes.{adds-as, adds-each, adds-kind, adds-none}

-- a fault of the kind is told
abbrev Late : Type 0 → List ℕ → Snapshot → ℕ → Fault → Type 0
Late ends stack s n f = (rank f ≡ n) × IsLate ends stack s f

-- elements that the pool doesn't have
stranger-told : (ends : Type 0) (stack : List ℕ) (s : Snapshot) (f : Fault) → Late ends stack s 4 f →
    (e : ℕ) × (f ≡ BadElem e) × ((0 < bag stack e + times_named s e) × (s.limits.population ≤ e))
stranger-told ends stack s (BadElem e) h = (e, refl, h.1.1)
stranger-told ends stack s f h = absurd (omega (arith, h.0))

pub late-strangers : (ends : Type 0) (stack : List ℕ) (s : Snapshot) (old new : List Fault) → HasShape s →
    AddsEach BadElem (λ e. (0 < bag stack e + times_named s e) × (s.limits.population ≤ e)) old new →
    Adds (λ f. (rank f ≡ 4) × IsLate ends stack s f) old new
late-strangers ends stack s old new shape added =
    adds-each (Late ends stack s 4) BadElem
    (λ e. (0 < bag stack e + times_named s e) × (s.limits.population ≤ e)) old new
    (λ a b less. inr (refl, less)) (λ e wrong. (refl, (omega arith, wrong, shape))) (stranger-told ends stack s) added

-- what is no packet
packet-told : (ends : Type 0) (stack : List ℕ) (s : Snapshot) → HasShape s → (f : Fault) →
    Late ends stack s 5 f ↔ ((rank f ≡ 5) × IsFault s f)
packet-told ends stack s shape BadPacket = (λ h. (h.0, h.1.1), λ h. (h.0, (omega arith, h.1, shape)))
packet-told ends stack s shape f = (λ h. absurd (omega (arith, h.0)), λ h. absurd (omega (arith, h.0)))

pub late-packets : (ends : Type 0) (stack : List ℕ) (s : Snapshot) (old new : List Fault) → HasShape s →
    Adds (λ f. (rank f ≡ 5) × IsFault s f) old new → Adds (λ f. (rank f ≡ 5) × IsLate ends stack s f) old new
late-packets ends stack s old new shape added =
    adds-as (λ f. (rank f ≡ 5) × IsFault s f) (Late ends stack s 5) old new added (packet-told ends stack s shape)

-- own elements of two segments
header-told : (ends : Type 0) (stack : List ℕ) (s : Snapshot) (own : List ℕ) →
    IsRow s.limits.population (times_own s) own → (f : Fault) → Late ends stack s 6 f →
    (e : ℕ) × (f ≡ DoubleHeader e) × ((e < length own) × IsRepeated own e)
header-told ends stack s own row (DoubleHeader e) h =
    let within : e < s.limits.population = h.1.2.1 in
    (e, refl, (omega (arith, within, row.len), omega (arith, h.1.1, row.counts e within)))
header-told ends stack s own row f h = absurd (omega (arith, h.0))

pub late-headers : (ends : Type 0) (stack : List ℕ) (s : Snapshot) (own : List ℕ) (old new : List Fault) → HasShape s →
    IsRow s.limits.population (times_own s) own → AddsBelow (length own) DoubleHeader (IsRepeated own) old new →
    Adds (λ f. (rank f ≡ 6) × IsLate ends stack s f) old new
late-headers ends stack s own old new shape row added =
    adds-each (Late ends stack s 6) DoubleHeader (λ e. (e < length own) × IsRepeated own e) old new
    (λ a b less. inr (refl, less))
    (λ e wrong.
    let within : e < s.limits.population = omega (arith, wrong.0, row.len) in
    let twice : 1 < times_own s e = omega (arith, wrong.1, row.counts e within) in
    (refl, (omega arith, twice, (shape, within))))
    (header-told ends stack s own row) added

-- elements that are free twice, or free and held
doubled-told : (ends : Bool) (stack : List ℕ) (s : Snapshot) (free held : List ℕ) →
    IsRow s.limits.population (times_free_on stack s) free → IsRow s.limits.population (times_held s) held → (f : Fault) →
    Late (IsTrue ends) stack s 7 f → (e : ℕ) × (f ≡ Doubled e) × ((e < length held) × IsDouble ends free held e)
doubled-told ends stack s free held frees holds (Doubled e) h =
    let within : e < s.limits.population = h.1.2.2 in (
      e,
      refl,
      (
        omega (arith, within, holds.len),
        (h.1.2.1, omega (arith, h.1.1, frees.counts e within, holds.counts e within)),
      ),
    )
doubled-told ends stack s free held frees holds f h = absurd (omega (arith, h.0))

pub late-doubled : (ends : Bool) (stack : List ℕ) (s : Snapshot) (free held : List ℕ) (old new : List Fault) → HasShape s →
    IsRow s.limits.population (times_free_on stack s) free → IsRow s.limits.population (times_held s) held →
    AddsBelow (length held) Doubled (IsDouble ends free held) old new →
    Adds (λ f. (rank f ≡ 7) × IsLate (IsTrue ends) stack s f) old new
late-doubled ends stack s free held old new shape frees holds added =
    adds-each (Late (IsTrue ends) stack s 7) Doubled (λ e. (e < length held) × IsDouble ends free held e) old new
    (λ a b less. inr (refl, less))
    (λ e wrong.
    let within : e < s.limits.population = omega (arith, wrong.0, holds.len) in
    let twice : 1 < times_free_on stack s e + min 1 (times_held s e) =
    omega (arith, wrong.1.1, frees.counts e within, holds.counts e within) in
    (refl, (omega arith, twice, (shape, wrong.1.0, within))))
    (doubled-told ends stack s free held frees holds) added

-- elements that are neither
lost-told : (ends : Bool) (stack : List ℕ) (s : Snapshot) (free held : List ℕ) →
    IsRow s.limits.population (times_free_on stack s) free → IsRow s.limits.population (times_held s) held → (f : Fault) →
    Late (IsTrue ends) stack s 8 f → (e : ℕ) × (f ≡ Lost e) × ((e < length held) × IsNowhere ends free held e)
lost-told ends stack s free held frees holds (Lost e) h =
    let within : e < s.limits.population = h.1.1.0 in (
      e,
      refl,
      (
        omega (arith, within, holds.len),
        (h.1.2.1, omega (arith, h.1.1.1, frees.counts e within, holds.counts e within)),
      ),
    )
lost-told ends stack s free held frees holds f h = absurd (omega (arith, h.0))

pub late-lost : (ends : Bool) (stack : List ℕ) (s : Snapshot) (free held : List ℕ) (old new : List Fault) → HasShape s →
    IsRow s.limits.population (times_free_on stack s) free → IsRow s.limits.population (times_held s) held →
    AddsBelow (length held) Lost (IsNowhere ends free held) old new →
    Adds (λ f. (rank f ≡ 8) × IsLate (IsTrue ends) stack s f) old new
late-lost ends stack s free held old new shape frees holds added =
    adds-each (Late (IsTrue ends) stack s 8) Lost (λ e. (e < length held) × IsNowhere ends free held e) old new
    (λ a b less. inr (refl, less))
    (λ e wrong.
    let within : e < s.limits.population = omega (arith, wrong.0, holds.len) in
    let nowhere : times_free_on stack s e + times_held s e ≡ 0 =
    omega (arith, wrong.1.1, frees.counts e within, holds.counts e within) in
    (refl, (omega arith, (within, nowhere), (shape, wrong.1.0))))
    (lost-told ends stack s free held frees holds) added

-- counts that aren't the number of holds
count-told : (ends : Type 0) (stack : List ℕ) (s : Snapshot) (held : List ℕ) →
    IsRow s.limits.population (times_held s) held → (f : Fault) → Late ends stack s 9 f →
    (e : ℕ) × (f ≡ BadCount e (slice_index s.counts e) (slice_index held e))
    × ((e < length held) × IsMiscounted s.counts held e)
count-told ends stack s held row (BadCount e word holds) h =
    let within : e < s.limits.population = h.1.1.0 in
    let few : holds < uncounted = h.1.2.1 in
    let counted : word ≡ slice_index s.counts e = h.1.1.1 in
    let times : holds ≡ slice_index held e = omega (arith, row.counts e within, h.1.1.2, few) in (
      e,
      ap (λ (n : ℕ). BadCount e n holds) counted ∙ ap (λ (n : ℕ). BadCount e (slice_index s.counts e) n) times,
      (
        omega (arith, within, row.len),
        (
          omega (arith, times, few),
          λ same. h.1.1.3 (counted ∙ same ∙ ap (λ (n : ℕ). max 1 n) (sym times)),
        ),
      ),
    )
count-told ends stack s held row f h = absurd (omega (arith, h.0))

pub late-counts : (ends : Type 0) (stack : List ℕ) (s : Snapshot) (held : List ℕ) (old new : List Fault) → HasShape s →
    IsRow s.limits.population (times_held s) held →
    AddsBelow (length held) (λ e. BadCount e (slice_index s.counts e) (slice_index held e)) (IsMiscounted s.counts held)
    old new → Adds (λ f. (rank f ≡ 9) × IsLate ends stack s f) old new
late-counts ends stack s held old new shape row added =
    adds-each (Late ends stack s 9) (λ e. BadCount e (slice_index s.counts e) (slice_index held e))
    (λ e. (e < length held) × IsMiscounted s.counts held e) old new
    (λ a b less. inr (refl, less))
    (λ e wrong.
    let within : e < s.limits.population = omega (arith, wrong.0, row.len) in
    let times : slice_index held e ≡ times_held s e = omega (arith, row.counts e within, wrong.1.0) in
    (refl, (omega arith, (within, refl, times, wrong.1.1), (shape, wrong.1.0))))
    (count-told ends stack s held row) added

-- a kind is one of the ten
late-kind : (ends : Type 0) (stack : List ℕ) (s : Snapshot) (f : Fault) → IsLate ends stack s f → rank f < 10
late-kind ends stack s OutOfMemory h = absurd h.2
late-kind ends stack s f h = omega arith

-- all kinds from the fifth on
pub late-all : (ends : Bool) (stack : List ℕ) (s : Snapshot) (tally : Tally) (a b c d e f g : List Fault) → HasShape s →
    IsTally stack s tally →
    AddsEach BadElem (λ v. (0 < bag stack v + times_named s v) × (s.limits.population ≤ v)) a b →
    Adds (λ f. (rank f ≡ 5) × IsFault s f) b c →
    AddsBelow (length tally.own.items) DoubleHeader (IsRepeated tally.own.items) c d →
    AddsBelow (length tally.held.items) Doubled (IsDouble ends tally.free.items tally.held.items) d e →
    AddsBelow (length tally.held.items) Lost (IsNowhere ends tally.free.items tally.held.items) e f →
    AddsBelow (length tally.held.items) (λ v. BadCount v (slice_index s.counts v) (slice_index tally.held.items v))
    (IsMiscounted s.counts tally.held.items) f g → Adds (IsLate (IsTrue ends) stack s) a g
late-all ends stack s tally a b c d e f g shape are strangers packets headers doubled lost counts =
    let Told = IsLate (IsTrue ends) stack s in
    let k4 = adds-none (λ f. (rank f < 4) × IsLate (IsTrue ends) stack s f) a (λ f h. omega (arith, h.0, h.1.0)) in
    let k5 = adds-kind Told 4 a a b k4 (late-strangers (IsTrue ends) stack s a b shape strangers) in
    let k6 = adds-kind Told 5 a b c k5 (late-packets (IsTrue ends) stack s b c shape packets) in
    let k7 = adds-kind Told 6 a c d k6 (late-headers (IsTrue ends) stack s tally.own.items c d shape are.own headers) in
    let k8 = adds-kind Told 7 a d e k7
    (late-doubled ends stack s tally.free.items tally.held.items d e shape are.free are.held doubled) in
    let k9 = adds-kind Told 8 a e f k8
    (late-lost ends stack s tally.free.items tally.held.items e f shape are.free are.held lost) in
    let k10 = adds-kind Told 9 a f g k9
    (late-counts (IsTrue ends) stack s tally.held.items f g shape are.held counts) in
    adds-as (λ f. (rank f < 10) × IsLate (IsTrue ends) stack s f) (IsLate (IsTrue ends) stack s) a g k10
    (λ f. (λ h. (late-kind (IsTrue ends) stack s f h, h), λ h. h.1))
