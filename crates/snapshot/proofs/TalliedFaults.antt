-- Which fault of a tallied snapshot is the first.
use Rattle.std.proofs.Common.{ℕ, ◌≡◌, ◌≢◌, ◌+◌, ◌<◌, ◌≤◌, List, get_or, length, inl, inr, refl, sym, ap, ◌∙◌, arith}
use Rattle.std.specs.Prelude.{max, min}
use Rattle.std.proofs.lemmas.Bool.{cases_lt}
use Rattle.snapshot.specs.declared.fault.Fault.{Fault}
use Rattle.snapshot.specs.declared.fault.Fault.TheVariants.{BadCount, Lost}
use Rattle.snapshot.specs.declared.snapshot.Snapshot.{Snapshot}
use Rattle.snapshot.specs.Faults.{IsCleanBelow, IsFault, IsFirstFault, rank, subject}
use Rattle.snapshot.specs.Snapshots.{times_free, times_held}
use Rattle.snapshot.specs.inside.Tallies.{IsRow}
use Rattle.snapshot.proofs.Clean.{clean_doubled, clean_lost}
use Rattle.snapshot.proofs.FirstFaults.{first_of_kind}

-- no element of the rows so far is twice in place
pub rows-once : (s : Snapshot) (free held : List ℕ) → IsRow s.limits.population (times_free s) free →
    IsRow s.limits.population (times_held s) held → IsCleanBelow 7 s →
    ((i : ℕ) → i < length held → get_or free i 0 + min 1 (get_or held i 0) ≤ 1) → IsCleanBelow 8 s
rows-once s free held frees holds clean once =
    clean_doubled s clean
    (λ e l. omega (arith, once e (omega (arith, l, holds.len)), frees.counts e l, holds.counts e l))

-- no fault of the kind names less
least-lost : (s : Snapshot) (free held : List ℕ) (e : ℕ) → IsRow s.limits.population (times_free s) free →
    IsRow s.limits.population (times_held s) held → ((i : ℕ) → i < e → 0 < get_or free i 0 + get_or held i 0) →
    (g : Fault) → IsFault s g → rank g ≡ 8 → e ≤ subject g
least-lost s free held e frees holds found (Lost v) is kind = elim (cases_lt v e) [
  | inl less ↦ absurd (omega (arith, found v less, frees.counts v is.0, holds.counts v is.0, is.1))
  | inr more ↦ more
]
least-lost s free held e frees holds found g is kind = absurd (omega (arith, kind))

-- the least element that is neither free nor held
pub first-lost : (s : Snapshot) (free held : List ℕ) (e : ℕ) → IsRow s.limits.population (times_free s) free →
    IsRow s.limits.population (times_held s) held → IsCleanBelow 8 s → e < length held →
    get_or free e 0 + get_or held e 0 ≡ 0 → ((i : ℕ) → i < e → 0 < get_or free i 0 + get_or held i 0) →
    IsFirstFault s (Lost e)
first-lost s free held e frees holds clean within none found =
    let l : e < s.limits.population = omega (arith, within, holds.len) in
    first_of_kind s (Lost e) (l, omega (arith, none, frees.counts e l, holds.counts e l)) clean
    (least-lost s free held e frees holds found)

-- each element so far is free or held
pub rows-placed : (s : Snapshot) (free held : List ℕ) → IsRow s.limits.population (times_free s) free →
    IsRow s.limits.population (times_held s) held → IsCleanBelow 8 s →
    ((i : ℕ) → i < length held → 0 < get_or free i 0 + get_or held i 0) → IsCleanBelow 9 s
rows-placed s free held frees holds clean placed =
    clean_lost s clean
    (λ e l. omega (arith, placed e (omega (arith, l, holds.len)), frees.counts e l, holds.counts e l))

-- a number of a row of holds is exact, where none is too great for it
exact : (s : Snapshot) (held : List ℕ) (e : ℕ) → IsRow s.limits.population (times_held s) held →
    times_held s e ≤ 4294967295 → e < s.limits.population → get_or held e 0 ≡ times_held s e
exact s held e holds few l = omega (arith, holds.counts e l, few)

least-count : (s : Snapshot) (held : List ℕ) (e : ℕ) → IsRow s.limits.population (times_held s) held →
    ((i : ℕ) → times_held s i ≤ 4294967295) →
    ((i : ℕ) → i < e → get_or s.counts i 0 ≡ max 1 (get_or held i 0)) →
    (g : Fault) → IsFault s g → rank g ≡ 9 → e ≤ subject g
least-count s held e holds few found (BadCount v word times) is kind = elim (cases_lt v e) [
  | inl less ↦
      let same : get_or held v 0 ≡ times = exact s held v holds (few v) is.0 ∙ sym is.2 in
      absurd (is.3 (is.1 ∙ found v less ∙ ap (λ (n : ℕ). max 1 n) same))
  | inr more ↦ more
]
least-count s held e holds few found g is kind = absurd (omega (arith, kind))

-- the least element whose count isn't the number of its holds
pub first-count : (s : Snapshot) (held : List ℕ) (e : ℕ) → IsRow s.limits.population (times_held s) held →
    ((i : ℕ) → times_held s i ≤ 4294967295) → IsCleanBelow 9 s → e < length held →
    get_or s.counts e 0 ≢ max 1 (get_or held e 0) →
    ((i : ℕ) → i < e → get_or s.counts i 0 ≡ max 1 (get_or held i 0)) →
    IsFirstFault s (BadCount e (get_or s.counts e 0) (get_or held e 0))
first-count s held e holds few clean within other found =
    let l : e < s.limits.population = omega (arith, within, holds.len) in
    first_of_kind s (BadCount e (get_or s.counts e 0) (get_or held e 0))
    (l, refl, exact s held e holds (few e) l, other) clean
    (least-count s held e holds few found)
