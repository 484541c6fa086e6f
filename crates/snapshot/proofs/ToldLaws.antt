-- What the faults that are told say of all faults.
use Rattle.std.proofs.Common.{ℕ, ◌≡◌, ◌+◌, ◌<◌, ◌≤◌, List, [], ◌∷◌, get_or, length, refl, sym, subst, inl, inr, arith}
use Rattle.std.specs.Prelude.{min, ◌⊎◌}
use Rattle.std.proofs.lemmas.Bool.{cases_lt}
use Rattle.std.proofs.lemmas.List.Elements.{All-from_get_or, Contains-get_or}
use Rattle.commons.specs.Bounds.{IsPool}
use Rattle.snapshot.specs.declared.fault.Fault.{Fault}
use Rattle.snapshot.specs.declared.fault.Fault.TheVariants.{BadShape, BadTop, Loop, BadLength, BadElem, BadPacket, DoubleHeader, Doubled, Lost, BadCount, OutOfMemory}
use Rattle.snapshot.specs.declared.snapshot.Snapshot.{Snapshot}
use Rattle.snapshot.specs.AllFaults.{AreAllFaults, IsTold, WalkEnds, uncounted}
use Rattle.snapshot.specs.Faults.{IsBefore, IsFault, IsFirstFault, rank, subject}
use Rattle.snapshot.specs.Snapshots.{HasShape, IsLawful, times_free, times_held, times_named, times_own, walk, words_met}
use Rattle.snapshot.proofs.Clean.{walk-past}
use Rattle.snapshot.proofs.HoldBounds.{held-few, own-le}
use Rattle.snapshot.proofs.Lawful.{faultless_lawful, lawful_faultless, shape_stable}
use Rattle.snapshot.proofs.Notes.{all-none}

-- where neither kind of fault of its words is there, the walk ends
walk-ends : (s : Snapshot) → ((v : ℕ) → IsFault s (BadTop v) → ⊥) → (IsFault s Loop → ⊥) → WalkEnds s
walk-ends s top loop = record {
  words =
      All-from_get_or (λ word. word ≤ s.limits.population) (words_met s) 0
      (λ i l. elim (cases_lt s.limits.population (get_or (words_met s) i 0)) [
        | inl past ↦ absurd (top (get_or (words_met s) i 0) (Contains-get_or (words_met s) i 0 l, past))
        | inr within ↦ within
      ]);
  ends = elim (cases_lt s.limits.population (length (walk s))) [ inl long ↦ absurd (loop long) | inr ends ↦ ends ];
}

-- An element that stands twice, or is the own one of two segments, is the pool's, or a `BadElem`.
own-named : (s : Snapshot) (e : ℕ) → 1 < times_own s e → 0 < times_named s e
own-named s e twice = omega (arith, twice, own-le s e)

double-named : (s : Snapshot) (e : ℕ) → s.limits.population ≤ e → 1 < times_free s e + min 1 (times_held s e) →
    0 < times_named s e
double-named s e past twice = omega (arith, twice, walk-past s e past)

-- Of a snapshot with the shape of its pool, a fault is told, or another one before it.
told-or : (s : Snapshot) → IsPool s.limits → HasShape s → (g : Fault) → IsFault s g →
    ((h : Fault) → IsTold s h → (h ≡ g) ⊎ IsBefore h g → ⊥) → ⊥
told-or s pool shape BadShape is none = is shape
told-or s pool shape (BadTop v) is none = none (BadTop v) (is, shape) (inl refl)
told-or s pool shape Loop is none = none Loop (is, shape) (inl refl)
told-or s pool shape (BadLength word found) is none =
    let ends = walk-ends s (λ v top. none (BadTop v) (top, shape) (inr (inl (omega arith))))
    (λ loop. none Loop (loop, shape) (inr (inl (omega arith)))) in
    none (BadLength word found) (is, (shape, ends)) (inl refl)
told-or s pool shape (BadElem v) is none = none (BadElem v) (is, shape) (inl refl)
told-or s pool shape BadPacket is none = none BadPacket (is, shape) (inl refl)
told-or s pool shape (DoubleHeader e) is none = elim (cases_lt e s.limits.population) [
  | inl within ↦ none (DoubleHeader e) (is, (shape, within)) (inl refl)
  | inr past ↦ none (BadElem e) ((own-named s e is, past), shape) (inr (inl (omega arith)))
]
told-or s pool shape (Doubled e) is none =
    let ends = walk-ends s (λ v top. none (BadTop v) (top, shape) (inr (inl (omega arith))))
    (λ loop. none Loop (loop, shape) (inr (inl (omega arith)))) in
    elim (cases_lt e s.limits.population) [
      | inl within ↦ none (Doubled e) (is, (shape, ends, within)) (inl refl)
      | inr past ↦ none (BadElem e) ((double-named s e past is, past), shape) (inr (inl (omega arith)))
    ]
told-or s pool shape (Lost e) is none =
    let ends = walk-ends s (λ v top. none (BadTop v) (top, shape) (inr (inl (omega arith))))
    (λ loop. none Loop (loop, shape) (inr (inl (omega arith)))) in
    none (Lost e) (is, (shape, ends)) (inl refl)
told-or s pool shape (BadCount e word holds) is none =
    let known : (v : ℕ) → s.limits.population ≤ v → times_named s v ≡ 0 =
    (λ v past. elim (cases_lt 0 (times_named s v)) [
      | inl some ↦ absurd (none (BadElem v) ((some, past), shape) (inr (inl (omega arith))))
      | inr few ↦ omega (arith, few)
    ]) in
    let once : (v : ℕ) → times_own s v ≤ 1 =
    (λ v. elim (cases_lt 1 (times_own s v)) [
      | inr few ↦ few
      | inl twice ↦ elim (cases_lt v s.limits.population) [
        | inl within ↦ absurd (none (DoubleHeader v) (twice, (shape, within)) (inr (inl (omega arith))))
        | inr past ↦ absurd (omega (arith, own-named s v twice, known v past))
      ]
    ]) in
    let few : holds < uncounted = omega (arith, is.2, held-few s e pool shape known once) in
    none (BadCount e word holds) (is, (shape, few)) (inl refl)
told-or s pool shape OutOfMemory is none = is

-- a told fault beside a bad shape has the shape
told-shape : (s : Snapshot) (f : Fault) → IsTold s f → 1 ≤ rank f → HasShape s
told-shape s BadShape told later = absurd (omega arith)
told-shape s (BadTop v) told later = told.1
told-shape s Loop told later = told.1
told-shape s (BadElem v) told later = told.1
told-shape s BadPacket told later = told.1
told-shape s OutOfMemory told later = absurd told.1
told-shape s f told later = told.1.0

-- nothing is before itself, and what is before something before is
before-not : (f : Fault) → IsBefore f f → ⊥
before-not f before = elim before [ inl lower ↦ omega (arith, lower) | inr less ↦ omega (arith, less.1) ]

before-then : (f g h : Fault) → IsBefore f g → IsBefore g h → IsBefore f h
before-then f g h first then = elim first [
  | inl low ↦ elim then [
    | inl lower ↦ inl (omega (arith, low, lower))
    | inr less ↦ inl (omega (arith, low, less.0))
  ]
  | inr low ↦ elim then [
    | inl lower ↦ inl (omega (arith, low.0, lower))
    | inr less ↦ inr (omega (arith, low.0, less.0), omega (arith, low.1, less.1))
  ]
]

-- no fault that is told is before the first one
none-before : (s : Snapshot) (f : Fault) (more : List Fault) → AreAllFaults (IsTold s) (f ∷ more) → (h : Fault) →
    IsTold s h → IsBefore h f → ⊥
none-before s f more are h told before =
    let there = (are.exactly h).1 told in
    elim (cases_lt 0 there.0) [
      | inr zeroth ↦
          let at : there.0 ≡ 0 = omega (arith, zeroth) in
          let same : f ≡ h = subst (λ (k : ℕ). get_or (f ∷ more) k h ≡ h) at there.2 in
          before-not f (subst (λ (x : Fault). IsBefore x f) (sym same) before)
      | inl later ↦
          let after = are.ordered 0 there.0 h later there.1 in
          before-not f (before-then f h f (subst (IsBefore f) there.2 after) before)
    ]

-- so it is the first of all faults
pub told-first : (s : Snapshot) (f : Fault) (more : List Fault) → IsPool s.limits → AreAllFaults (IsTold s) (f ∷ more) →
    IsFirstFault s f
told-first s f more pool are =
    let told = (are.exactly f).0 (0, omega arith, refl) in (
      told.0,
      λ g is before. elim (cases_lt 0 (rank f)) [
        | inl later ↦ told-or s pool (told-shape s f told later) g is
            (λ h told_h at_or. elim at_or [
              | inl same ↦ none-before s f more are h told_h (subst (λ (x : Fault). IsBefore x f) (sym same) before)
              | inr sooner ↦ none-before s f more are h told_h (before-then h g f sooner before)
            ])
        | inr zeroth ↦ elim before [
          | inl lower ↦ omega (arith, lower, zeroth)
          | inr less ↦ first-alone f (omega (arith, zeroth)) g less.1
        ]
      ],
    )
  where
    -- a bad shape names no element
    first-alone : (f : Fault) → rank f ≡ 0 → (g : Fault) → subject g < subject f → ⊥
    first-alone BadShape kind g less = omega (arith, less)
    first-alone f kind g less = omega (arith, kind)

-- where none is told, there is none
pub told-none : (s : Snapshot) → IsPool s.limits → AreAllFaults (IsTold s) [] → IsLawful s
told-none s pool are =
    let none : (h : Fault) → IsTold s h → ⊥ = (λ h told. let there = (are.exactly h).1 told in
    let l = there.1 in omega (arith, l)) in
    let shape = shape_stable s (λ bad. none BadShape (bad, tt)) in
    faultless_lawful s (λ f is. told-or s pool shape f is (λ h told at. none h told))

-- and the other way round
pub lawful-told : (s : Snapshot) → IsLawful s → AreAllFaults (IsTold s) []
lawful-told s lawful = all-none (IsTold s) (λ f told. (lawful_faultless s).0 lawful f told.0)
