-- Which fault is the first, where an element is named that the pool doesn't have.
use Rattle.std.proofs.Common.{ℕ, ◌≡◌, ◌≤◌, Some, inl, inr, arith}
use Rattle.std.proofs.lemmas.Bool.{cases_lt}
use Rattle.snapshot.specs.declared.fault.Fault.{Fault}
use Rattle.snapshot.specs.declared.fault.Fault.TheVariants.{BadShape, BadTop, Loop, BadLength, BadElem, BadPacket, DoubleHeader, Doubled, Lost, BadCount, OutOfMemory}
use Rattle.snapshot.specs.declared.snapshot.Snapshot.{Snapshot}
use Rattle.snapshot.specs.Faults.{IsCleanBelow, IsFault, IsFirstFault, rank, subject}
use Rattle.snapshot.specs.Snapshots.{times_named}
use Rattle.snapshot.specs.inside.Least.{IsLeast}

-- a fault is the first where no kind before its has one, and none of its kind names less
first-of_kind : (s : Snapshot) (f : Fault) → IsFault s f → IsCleanBelow (rank f) s →
    ((g : Fault) → IsFault s g → rank g ≡ rank f → subject f ≤ subject g) → IsFirstFault s f
first-of_kind s f is clean least = (
  is,
  λ g h before. elim before [
    | inl lower ↦ absurd (let k : rank f ≤ rank g = clean g h in omega arith)
    | inr less ↦ absurd (let k : subject f ≤ subject g = least g h less.0 in omega (arith, less.1))
  ],
)

-- no element is named that is less, and that the pool doesn't have
least_elem : (s : Snapshot) (v : ℕ) → IsLeast s.limits.population (times_named s) (Some v) →
    (g : Fault) → IsFault s g → rank g ≡ 4 → v ≤ subject g
least_elem s v h (BadElem w) is r = elim (cases_lt w v) [
  | inl l ↦ absurd (let none = h.2 w is.1 l in omega (arith, is.0))
  | inr l ↦ l
]
least_elem s v h BadShape is r = absurd (omega arith)
least_elem s v h (BadTop w) is r = absurd (omega arith)
least_elem s v h Loop is r = absurd (omega arith)
least_elem s v h (BadLength w n) is r = absurd (omega arith)
least_elem s v h BadPacket is r = absurd (omega arith)
least_elem s v h (DoubleHeader e) is r = absurd (omega arith)
least_elem s v h (Doubled e) is r = absurd (omega arith)
least_elem s v h (Lost e) is r = absurd (omega arith)
least_elem s v h (BadCount e w n) is r = absurd (omega arith)
least_elem s v h OutOfMemory is r = absurd (omega arith)

-- the least element that the pool doesn't have
pub first-elem : (s : Snapshot) (v : ℕ) → IsCleanBelow 4 s → IsLeast s.limits.population (times_named s) (Some v) →
    IsFirstFault s (BadElem v)
first-elem s v clean h = first-of_kind s (BadElem v) (h.1, h.0) clean (least_elem s v h)
