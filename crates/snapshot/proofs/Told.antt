-- Which faults of a snapshot are told, where its walk ends and where it doesn't.
use Rattle.std.proofs.Common.{ℕ, ◌≡◌, ◌≤◌, true, false, List, [], ◌∷◌, refl, sym, subst, inl, inr, arith}
use Rattle.std.specs.Prelude.{IsTrue, ◌↔◌, ◌⊎◌}
use Rattle.std.proofs.lemmas.List.Elements.{All-contains}
use Rattle.commons.proofs.Bags.{bag-nil}
use Rattle.snapshot.specs.declared.fault.Fault.{Fault}
use Rattle.snapshot.specs.declared.fault.Fault.TheVariants.{BadShape, BadTop, Loop, BadLength, BadElem, BadPacket, Doubled, Lost, OutOfMemory}
use Rattle.snapshot.specs.declared.snapshot.Snapshot.{Snapshot}
use Rattle.snapshot.specs.AllFaults.{AreAllFaults, IsTold, IsToldOn, WalkEnds}
use Rattle.snapshot.specs.Faults.{IsFault, rank}
use Rattle.snapshot.specs.Snapshots.{HasShape, walk, words_met}
use Rattle.snapshot.specs.inside.Breaks.{IsBreak}
use Rattle.snapshot.specs.inside.Notes.{Adds, IsLate}
use Rattle.snapshot.proofs.Clean.{walk-past}
use Rattle.snapshot.proofs.Notes.{adds-after, adds-first, adds-then, all-as, all-one, never}

-- ---- a bad shape is told alone

shapeless-only : (s : Snapshot) → (HasShape s → ⊥) → (f : Fault) → IsTold s f → f ≡ BadShape
shapeless-only s bad BadShape told = refl
shapeless-only s bad (BadTop v) told = absurd (bad told.1)
shapeless-only s bad Loop told = absurd (bad told.1)
shapeless-only s bad (BadElem v) told = absurd (bad told.1)
shapeless-only s bad BadPacket told = absurd (bad told.1)
shapeless-only s bad OutOfMemory told = absurd told.1
shapeless-only s bad f told = absurd (bad told.1.0)

pub told-shapeless : (s : Snapshot) → (HasShape s → ⊥) → AreAllFaults (IsTold s) (BadShape ∷ [])
told-shapeless s bad = all-one (IsTold s) BadShape (bad, tt) (shapeless-only s bad)

shapeless-only-on : (stack : List ℕ) (s : Snapshot) → (HasShape s → ⊥) → (f : Fault) → IsToldOn stack s f → f ≡ BadShape
shapeless-only-on stack s bad BadShape told = refl
shapeless-only-on stack s bad (BadTop v) told = absurd told.0
shapeless-only-on stack s bad Loop told = absurd told.0
shapeless-only-on stack s bad (BadElem v) told = absurd (bad told.1)
shapeless-only-on stack s bad BadPacket told = absurd (bad told.1)
shapeless-only-on stack s bad OutOfMemory told = absurd told.1
shapeless-only-on stack s bad f told = absurd (bad told.1.0)

pub told-shapeless-on : (stack : List ℕ) (s : Snapshot) → (HasShape s → ⊥) →
    AreAllFaults (IsToldOn stack s) (BadShape ∷ [])
told-shapeless-on stack s bad = all-one (IsToldOn stack s) BadShape (bad, tt) (shapeless-only-on stack s bad)

-- ---- a list

listed-is : (stack : List ℕ) (s : Snapshot) → HasShape s → (f : Fault) → IsToldOn stack s f ↔ IsLate (IsTrue true) stack s f
listed-is stack s shape BadShape = (λ told. absurd (told.0 shape), λ late. absurd (omega (arith, late.0)))
listed-is stack s shape (BadTop v) = (λ told. absurd told.0, λ late. absurd (omega (arith, late.0)))
listed-is stack s shape Loop = (λ told. absurd told.0, λ late. absurd (omega (arith, late.0)))
listed-is stack s shape (BadLength word found) = (λ told. absurd told.0, λ late. absurd (omega (arith, late.0)))
listed-is stack s shape (Doubled e) = (
  λ told. (omega arith, told.0, (told.1.0, refl, told.1.2)),
  λ late. (late.1, (late.2.0, tt, late.2.2)),
)
listed-is stack s shape (Lost e) = (
  λ told. (omega arith, told.0, (told.1.0, refl)),
  λ late. (late.1, (late.2.0, tt)),
)
listed-is stack s shape f = (λ told. (omega arith, told.0, told.1), λ late. (late.1, late.2))

pub told-listed : (stack : List ℕ) (s : Snapshot) (new : List Fault) → HasShape s →
    Adds (IsLate (IsTrue true) stack s) [] new → AreAllFaults (IsToldOn stack s) new
told-listed stack s new shape added =
    all-as (IsLate (IsTrue true) stack s) (IsToldOn stack s) new (adds-first (IsLate (IsTrue true) stack s) new added)
    (listed-is stack s shape)

-- ---- a walk that ends

walked-is : (s : Snapshot) → HasShape s → WalkEnds s → (f : Fault) →
    IsTold s f ↔ (((rank f ≡ 3) × IsFault s f) ⊎ IsLate (IsTrue true) (walk s) s f)
walked-is s shape ends BadShape = (
  λ told. absurd (told.0 shape),
  λ either. elim either [ inl h ↦ absurd (omega (arith, h.0)) | inr late ↦ absurd (omega (arith, late.0)) ],
)
walked-is s shape ends (BadTop v) = (
  λ told.
      let fits : v ≤ s.limits.population =
      All-contains (λ word. word ≤ s.limits.population) (words_met s) v ends.words told.0.0 in
      absurd (omega (arith, fits, told.0.1)),
  λ either. elim either [ inl h ↦ absurd (omega (arith, h.0)) | inr late ↦ absurd (omega (arith, late.0)) ],
)
walked-is s shape ends Loop = (
  λ told. absurd (omega (arith, told.0, ends.ends)),
  λ either. elim either [ inl h ↦ absurd (omega (arith, h.0)) | inr late ↦ absurd (omega (arith, late.0)) ],
)
walked-is s shape ends (BadLength word found) = (
  λ told. inl (refl, told.0),
  λ either. elim either [ inl h ↦ (h.1, (shape, ends)) | inr late ↦ absurd (omega (arith, late.0)) ],
)
walked-is s shape ends (BadElem v) = (
  λ told. inr (omega arith, (omega (arith, told.0.0), told.0.1), told.1),
  λ either. elim either [
    | inl h ↦ absurd (omega (arith, h.0))
    | inr late ↦ ((omega (arith, late.1.0, walk-past s v late.1.1), late.1.1), late.2)
  ],
)
walked-is s shape ends (Doubled e) = (
  λ told. inr (omega arith, told.0, (told.1.0, refl, told.1.2)),
  λ either. elim either [
    | inl h ↦ absurd (omega (arith, h.0))
    | inr late ↦ (late.1, (late.2.0, ends, late.2.2))
  ],
)
walked-is s shape ends (Lost e) = (
  λ told. inr (omega arith, told.0, (told.1.0, refl)),
  λ either. elim either [
    | inl h ↦ absurd (omega (arith, h.0))
    | inr late ↦ (late.1, (late.2.0, ends))
  ],
)
walked-is s shape ends f = (
  λ told. inr (omega arith, told.0, told.1),
  λ either. elim either [
    | inl h ↦ absurd (omega (arith, h.0))
    | inr late ↦ (late.1, late.2)
  ],
)

pub told-walked : (s : Snapshot) (mid new : List Fault) → HasShape s → WalkEnds s →
    Adds (λ f. (rank f ≡ 3) × IsFault s f) [] mid → Adds (IsLate (IsTrue true) (walk s) s) mid new →
    AreAllFaults (IsTold s) new
told-walked s mid new shape ends word others =
    adds-first (IsTold s) new
    (adds-then (λ f. (rank f ≡ 3) × IsFault s f) (IsLate (IsTrue true) (walk s) s) (IsTold s) [] mid new word others
    (λ f g h late. inl (omega (arith, h.0, late.0))) (walked-is s shape ends))

-- ---- a walk that doesn't

-- what says why is told
break-told : (s : Snapshot) (f : Fault) → HasShape s → IsBreak s f → IsTold s f
break-told s (BadTop v) shape why = (why.is, shape)
break-told s Loop shape why = (why.is, shape)
break-told s BadShape shape why = absurd (omega (arith, why.low))
break-told s f shape why = absurd (omega (arith, why.high))

broken-is : (s : Snapshot) (b : Fault) → HasShape s → IsBreak s b → (f : Fault) →
    IsTold s f ↔ ((f ≡ b) ⊎ IsLate (IsTrue false) [] s f)
broken-is s b shape why BadShape = (
  λ told. absurd (told.0 shape),
  λ either. elim either [
    | inl same ↦ subst (IsTold s) (sym same) (break-told s b shape why)
    | inr late ↦ absurd (omega (arith, late.0))
  ],
)
broken-is s b shape why (BadTop v) = (
  λ told. inl (why.alone (BadTop v) told.0 (omega arith) (omega arith)),
  λ either. elim either [
    | inl same ↦ subst (IsTold s) (sym same) (break-told s b shape why)
    | inr late ↦ absurd (omega (arith, late.0))
  ],
)
broken-is s b shape why Loop = (
  λ told. inl (why.alone Loop told.0 (omega arith) (omega arith)),
  λ either. elim either [
    | inl same ↦ subst (IsTold s) (sym same) (break-told s b shape why)
    | inr late ↦ absurd (omega (arith, late.0))
  ],
)
broken-is s b shape why (BadLength word found) = (
  λ told. absurd (why.endless told.1.1),
  λ either. elim either [
    | inl same ↦ subst (IsTold s) (sym same) (break-told s b shape why)
    | inr late ↦ absurd (omega (arith, late.0))
  ],
)
broken-is s b shape why (BadElem v) = (
  λ told. inr (omega arith, (omega (arith, told.0.0), told.0.1), told.1),
  λ either. elim either [
    | inl same ↦ subst (IsTold s) (sym same) (break-told s b shape why)
    | inr late ↦ ((omega (arith, late.1.0, bag-nil v), late.1.1), late.2)
  ],
)
broken-is s b shape why (Doubled e) = (
  λ told. absurd (why.endless told.1.1),
  λ either. elim either [
    | inl same ↦ subst (IsTold s) (sym same) (break-told s b shape why)
    | inr late ↦ absurd (never late.2.1)
  ],
)
broken-is s b shape why (Lost e) = (
  λ told. absurd (why.endless told.1.1),
  λ either. elim either [
    | inl same ↦ subst (IsTold s) (sym same) (break-told s b shape why)
    | inr late ↦ absurd (never late.2.1)
  ],
)
broken-is s b shape why f = (
  λ told. inr (omega arith, told.0, told.1),
  λ either. elim either [
    | inl same ↦ subst (IsTold s) (sym same) (break-told s b shape why)
    | inr late ↦ (late.1, late.2)
  ],
)

pub told-broken : (s : Snapshot) (b : Fault) (new : List Fault) → HasShape s → IsBreak s b →
    Adds (IsLate (IsTrue false) [] s) (b ∷ []) new → AreAllFaults (IsTold s) new
told-broken s b new shape why added =
    adds-after (λ f. f ≡ b) (IsLate (IsTrue false) [] s) (IsTold s) b new refl (λ g same. same) added
    (λ f g same late. inl (let low = subst (λ h. rank h ≤ 2) (sym same) why.high in omega (arith, low, late.0)))
    (broken-is s b shape why)
