-- Why a pool isn't settled.
use Rattle.std.proofs.Common.{◌≡◌, ◌⊎◌, inl, inr, refl, sym, subst}
use Rattle.snapshot.specs.declared.fault.Fault.{Fault}
use Rattle.snapshot.specs.declared.fault.Fault.TheVariants.{OutOfMemory}
use Rattle.snapshot.specs.Faults.{IsFault, IsFirstFault}
use Rattle.commons.specs.declared.closed.Closed.{Closed}
use Rattle.book.specs.declared.settling.Unsettled.{Unsettled}
use Rattle.book.specs.declared.settling.Unsettled.TheVariants.{MissingShare, OutOfMemory as NoMemory, Fault as HasFault}
use Rattle.book.specs.Books.{IsFull}
use Rattle.book.specs.Left.{AreOfPackets, IsLawfulByTypes}
use Rattle.book.specs.Places.{Places}
use Rattle.book.specs.Settling.{IsUnsettled, snapshot_with}
use Rattle.book.specs.declared.twin_settling.TwinUnsettled.{TwinUnsettled}
use Rattle.book.specs.declared.twin_settling.TwinUnsettled.TheVariants as twin
use Rattle.book.specs.TwinPlaces.{TwinPlaces}
use Rattle.book.specs.TwinSettling.{IsTwinUnsettled, first_with, second_with}
use Rattle.snapshot.specs.Snapshots.{IsLawful}
use Rattle.snapshot.specs.declared.snapshot.Snapshot.{Snapshot}
use Rattle.book.specs.inside.Causes.{cause_of}

-- what an audit answers where no share is missing, of what types keep packets in
pub unsettled_is : (b : Places) (closed : Closed) (f : Fault) → IsFull b → AreOfPackets (snapshot_with b closed) →
    (f ≡ OutOfMemory) ⊎ IsFirstFault (snapshot_with b closed) f → IsUnsettled b closed (cause_of f)
unsettled_is b closed f full typed (inl e) = subst (λ g. IsUnsettled b closed (cause_of g)) (sym e) full
unsettled_is b closed OutOfMemory full typed (inr first) = absurd first.0
unsettled_is b closed f full typed (inr first) = (full, first, typed)

-- only memory was missing where no share is missing and there is no fault
pub memory_alone : (b : Places) (closed : Closed) (cause : Unsettled) → IsFull b → ((f : Fault) → ¬ (IsFault (snapshot_with b closed) f)) →
    IsUnsettled b closed cause → cause ≡ NoMemory
memory_alone b closed (MissingShare w) full sound is = absurd (full w is.missing)
memory_alone b closed NoMemory full sound is = refl
memory_alone b closed (HasFault f) full sound is = absurd (sound f is.1.0)

-- and where it is lawful, given what types keep, which is told beside a fault
pub memory_typed : (b : Places) (closed : Closed) (cause : Unsettled) → IsFull b → IsLawfulByTypes (snapshot_with b closed) →
    ((s : Snapshot) → IsLawful s → (f : Fault) → ¬ (IsFault s f)) → IsUnsettled b closed cause → cause ≡ NoMemory
memory_typed b closed (MissingShare w) full lawful sound is = absurd (full w is.missing)
memory_typed b closed NoMemory full lawful sound is = refl
memory_typed b closed (HasFault f) full lawful sound is = absurd (sound (snapshot_with b closed) (lawful is.2) f is.1.0)

-- so it is with two pools
pub twin_memory_alone : (b : TwinPlaces) (one two : Closed) (cause : TwinUnsettled) → IsFull b.first →
    ((f : Fault) → ¬ (IsFault (first_with b one) f)) → ((f : Fault) → ¬ (IsFault (second_with b two) f)) →
    IsTwinUnsettled b one two cause → cause ≡ twin.OutOfMemory
twin_memory_alone b one two (twin.MissingShare w) full sound fine is = absurd (full w is.missing)
twin_memory_alone b one two twin.OutOfMemory full sound fine is = refl
twin_memory_alone b one two (twin.First f) full sound fine is = absurd (sound f is.1.0)
twin_memory_alone b one two (twin.Second f) full sound fine is = absurd (fine f is.2.0)

-- and where both are lawful, given what types keep, which is told beside a fault
pub twin_memory_typed : (b : TwinPlaces) (one two : Closed) (cause : TwinUnsettled) → IsFull b.first →
    IsLawfulByTypes (first_with b one) → IsLawfulByTypes (second_with b two) →
    ((s : Snapshot) → IsLawful s → (f : Fault) → ¬ (IsFault s f)) →
    IsTwinUnsettled b one two cause → cause ≡ twin.OutOfMemory
twin_memory_typed b one two (twin.MissingShare w) full first second sound is = absurd (full w is.missing)
twin_memory_typed b one two twin.OutOfMemory full first second sound is = refl
twin_memory_typed b one two (twin.First f) full first second sound is =
    absurd (sound (first_with b one) (first is.2) f is.1.0)
twin_memory_typed b one two (twin.Second f) full first second sound is =
    absurd (sound (second_with b two) (second is.3) f is.2.0)
