-- What each pass shows leaves the snapshot without the faults of one kind more.
use Rattle.std.proofs.Common.{ℕ, ◌≡◌, ◌+◌, ◌<◌, ◌≤◌, inl, inr, nat_lt, List, [], ◌∷◌, zero, suc, length, sym, ap, ◌∙◌, arith}
use Rattle.std.specs.Prelude.{All, min, max, slice_index}
use Rattle.std.proofs.lemmas.Bool.{cases_Bool, cases_lt, ltb-true}
use Rattle.std.proofs.lemmas.List.Elements.{All-contains}
use Rattle.commons.specs.Bag.{bag}
use Rattle.commons.specs.Packets.{IsPacket}
use Rattle.commons.specs.declared.packet.Seg.{Seg}
use Rattle.commons.proofs.Bags.{bag-nil, bag-cons}
use Rattle.commons.proofs.Places.{one-apart}
use Rattle.snapshot.specs.declared.fault.Fault.TheVariants.{BadShape, BadTop, Loop, BadLength, BadElem, BadPacket, DoubleHeader, Doubled, Lost, BadCount}
use Rattle.snapshot.specs.declared.snapshot.Snapshot.{Snapshot}
use Rattle.snapshot.specs.Faults.{IsCleanBelow}
use Rattle.snapshot.specs.Snapshots.{HasPacket, HasShape, elements_of, times_free, times_held, times_named, times_own, walk, words_met}

-- words name no element past the population
bag-elements_past : (population : ℕ) (words : List ℕ) (e : ℕ) → population ≤ e →
    bag (elements_of population words) e ≡ 0
bag-elements_past population [] e h = bag-nil e
bag-elements_past population (zero ∷ words) e h = bag-elements_past population words e h
bag-elements_past population (suc x ∷ words) e h = elim (cases_Bool (nat_lt x population)) [
  | inl within ↦
      let below : x < population = ltb-true x population within in
      rw within (omega (
        arith,
        bag-cons x (elements_of population words) e,
        one-apart x e (omega arith),
        bag-elements_past population words e h,
      ))
  | inr past ↦ rw past (bag-elements_past population words e h)
]

-- so the walk has none
pub walk-past : (s : Snapshot) (e : ℕ) → s.limits.population ≤ e → bag (walk s) e ≡ 0
walk-past s e h = bag-elements_past s.limits.population (words_met s) e h

-- no fault has a kind before the first
pub clean_none : (s : Snapshot) → IsCleanBelow 0 s
clean_none s g f = omega arith

-- a snapshot with the shape of its pool has no `BadShape`, the only fault of the first kind
pub clean_shape : (s : Snapshot) → HasShape s → IsCleanBelow 1 s
clean_shape s h BadShape f = absurd (f h)
clean_shape s h g f = omega arith

-- words that are met along the links name elements of the pool or none, so no `BadTop`
pub clean_words : (s : Snapshot) → IsCleanBelow 1 s →
    All (λ word. word ≤ s.limits.population) (words_met s) → IsCleanBelow 2 s
clean_words s c h (BadTop v) f =
    let within : v ≤ s.limits.population = All-contains (λ word. word ≤ s.limits.population) (words_met s) v h f.0 in
    absurd (omega (arith, within, f.1))
clean_words s c h g f = omega (arith, c g f)

-- a walk of at most the population is no `Loop`
pub clean_ends : (s : Snapshot) → IsCleanBelow 2 s → length (walk s) ≤ s.limits.population → IsCleanBelow 3 s
clean_ends s c h Loop f = absurd (omega (arith, h, f))
clean_ends s c h g f = omega (arith, c g f)

-- a length word that is the walk's length is no `BadLength`
pub clean_length : (s : Snapshot) → IsCleanBelow 3 s → s.length ≡ length (walk s) → IsCleanBelow 4 s
clean_length s c h (BadLength word found) f = absurd (f.2 (f.0 ∙ h ∙ sym f.1))
clean_length s c h g f = omega (arith, c g f)

-- where nothing past the population is named by a cache or a packet, no `BadElem` is
pub clean_elements : (s : Snapshot) → IsCleanBelow 4 s →
    ((e : ℕ) → s.limits.population ≤ e → times_named s e ≡ 0) → IsCleanBelow 5 s
clean_elements s c h (BadElem v) f = absurd (omega (arith, h v f.1, f.0))
clean_elements s c h g f = omega (arith, c g f)

-- where all that stands in slots and on desks is packets, there is no `BadPacket`
pub clean_packets : (s : Snapshot) → IsCleanBelow 5 s →
    ((segs : List Seg) → HasPacket s segs → IsPacket segs) → IsCleanBelow 6 s
clean_packets s c h BadPacket f = absurd (f.2 (h f.0 f.1))
clean_packets s c h g f = omega (arith, c g f)

-- where no element is the own one of two segments, there is no `DoubleHeader`
pub clean_own : (s : Snapshot) → IsCleanBelow 6 s → ((e : ℕ) → times_own s e ≤ 1) → IsCleanBelow 7 s
clean_own s c h (DoubleHeader e) f = absurd (omega (arith, h e, f))
clean_own s c h g f = omega (arith, c g f)

-- no cache and no packet names an element past the population
pub known_clean : (s : Snapshot) → IsCleanBelow 5 s → (e : ℕ) → s.limits.population ≤ e → times_named s e ≡ 0
known_clean s c e past = elim (cases_lt 0 (times_named s e)) [
  | inl some ↦ absurd (omega (arith, c (BadElem e) (some, past)))
  | inr none ↦ omega (arith, none)
]

-- so it stands nowhere
pub nowhere_past : (s : Snapshot) → ((e : ℕ) → s.limits.population ≤ e → times_named s e ≡ 0) → (e : ℕ) →
    s.limits.population ≤ e → times_free s e + times_held s e ≡ 0
nowhere_past s known e past = omega (arith, walk-past s e past, known e past)

-- no element of the pool is twice in place, and one past the population stands nowhere
pub clean_doubled : (s : Snapshot) → IsCleanBelow 7 s → ((e : ℕ) → e < s.limits.population →
    times_free s e + min 1 (times_held s e) ≤ 1) → IsCleanBelow 8 s
clean_doubled s c h (Doubled e) f = elim (cases_lt e s.limits.population) [
  | inl within ↦ absurd (omega (arith, h e within, f))
  | inr past ↦ absurd (omega (arith, nowhere_past s (known_clean s (λ g i. omega (arith, c g i))) e past, f))
]
clean_doubled s c h g f = omega (arith, c g f)

-- where each element of the pool is free or held, none is `Lost`
pub clean_lost : (s : Snapshot) → IsCleanBelow 8 s →
    ((e : ℕ) → e < s.limits.population → 0 < times_free s e + times_held s e) →
    IsCleanBelow 9 s
clean_lost s c h (Lost e) f = absurd (omega (arith, h e f.0, f.1))
clean_lost s c h g f = omega (arith, c g f)

-- each element of the pool in one place
pub clean_once : (s : Snapshot) → IsCleanBelow 7 s → ((e : ℕ) → e < s.limits.population →
    times_free s e + min 1 (times_held s e) ≡ 1) → IsCleanBelow 9 s
clean_once s c h = clean_lost s (clean_doubled s c (λ e l. omega (arith, h e l))) (λ e l. omega (arith, h e l))

-- where each count is the number of holds, or 1 without one, there is no `BadCount`
pub clean_counted : (s : Snapshot) → IsCleanBelow 9 s → ((e : ℕ) → e < s.limits.population →
    slice_index s.counts e ≡ max 1 (times_held s e)) → IsCleanBelow 10 s
clean_counted s c h (BadCount e word holds) f = absurd (f.3 (f.1 ∙ h e f.0 ∙ ap (λ (n : ℕ). max 1 n) (sym f.2)))
clean_counted s c h g f = omega (arith, c g f)
