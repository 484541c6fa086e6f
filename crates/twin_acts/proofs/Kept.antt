-- What a worker of two pools keeps, whatever it does.
use Rattle.std.proofs.Common.{ℕ, ◌≡◌, List, length, get_or, Option, Some, None, Result, refl, sym, ap, subst}
use Rattle.commons.specs.Calls.{Call}
use Rattle.commons.specs.declared.packet.Seg.{Seg}
use Rattle.commons.specs.declared.refusal.Refusal.{Refusal}
use Rattle.commons.specs.declared.refusal.Refusal.TheVariants.{TooShort}
use Rattle.mbuf.specs.Acts.{Reply}
use Rattle.mbuf.specs.Foreign.{ClonesInto, CantClone, CloneGivenUp, ClonedInto, FreesForeign, NoClone, CloneFreed}
use Rattle.mbuf.specs.Lengths.{adjusted, trimmed}
use Rattle.mbuf.specs.Members.{Member, slots}
use Rattle.mbuf.specs.PacketRules.{Resizes, resize_in, resize_to}
use Rattle.mbuf.specs.Twins.{TwinMember}
use Rattle.mbuf.specs.declared.freed.Freed.{Freed}
use Rattle.mbuf.proofs.ActLemmas.{any_room}
use Rattle.mbuf.proofs.MemberLemmas.{performs_keeps}
use Rattle.twin_acts.specs.TwinActs.{HasTwinRoom, KeepsTwin, PerformsTwin}
use Rattle.twin_acts.specs.declared.acts.TwinAct.{TwinAct}
use Rattle.twin_acts.specs.declared.acts.TwinAct.TheVariants.{OnFirst, CloneInto, AdjClone, TrimClone, CountClone, FreeClone}

abbrev Keeps : Member → Member → Type 0
Keeps old new = (new.limits ≡ old.limits) × (new.number ≡ old.number)

keeps_same : (old new : Member) → new ≡ old → Keeps old new
keeps_same old new e = (ap (λ (m : Member). m.limits) e, ap (λ (m : Member). m.number) e)

-- a change of lengths
resized_to : (new : Option (List Seg)) (cause : Refusal) (slot : ℕ) (m : Member) → Keeps m (resize_to new cause slot m).1
resized_to None cause slot m = (refl, refl)
resized_to (Some segs) cause slot m = (refl, refl)

resized_in : (old : Option (List Seg)) (change : List Seg → Option (List Seg)) (cause : Refusal) (slot : ℕ) (m : Member) →
    Keeps m (resize_in old change cause slot m).1
resized_in None change cause slot m = (refl, refl)
resized_in (Some segs) change cause slot m = resized_to (change segs) cause slot m

resized : (change : List Seg → Option (List Seg)) (cause : Refusal) (m : Member) (slot : ℕ) (answer : Result ℕ Refusal)
    (after : Member) → Resizes change cause m slot answer after → Keeps m after
resized change cause m slot answer after h =
    subst (λ (done : Result ℕ Refusal × Member). Keeps m done.1) (sym h)
    (resized_in (get_or m.table slot None) change cause slot m)

-- a clone into the second pool
cloned_into : (first second first_after second_after : Member) (p : ℕ) (firsts seconds : List Call) (answer : Result ℕ Refusal) →
    ClonesInto first second p firsts seconds answer first_after second_after →
    Keeps first first_after × Keeps second second_after
cloned_into first second first_after second_after p firsts seconds answer (CantClone cause f c d a k l) =
    (keeps_same first first_after k, keeps_same second second_after l)
cloned_into first second first_after second_after p firsts seconds answer (CloneGivenUp segs s f cause x y g a k l) = (
  (ap (λ (m : Member). m.limits) k, ap (λ (m : Member). m.number) k),
  (ap (λ (m : Member). m.limits) l, ap (λ (m : Member). m.number) l),
)
cloned_into first second first_after second_after p firsts seconds answer (ClonedInto segs s f new left g a k l) =
    (keeps_same first first_after k, (ap (λ (m : Member). m.limits) l, ap (λ (m : Member). m.number) l))

-- a free of a foreign clone
freed_foreign : (first second first_after second_after : Member) (slot : ℕ) (firsts seconds : List Call) (answer : Result Freed Refusal) →
    FreesForeign first second slot firsts seconds answer first_after second_after →
    Keeps first first_after × Keeps second second_after
freed_foreign first second first_after second_after slot firsts seconds answer (NoClone n c d a k l) =
    (keeps_same first first_after k, keeps_same second second_after l)
freed_foreign first second first_after second_after slot firsts seconds answer (CloneFreed segs x y done t e a k l) = (
  (ap (λ (m : Member). m.limits) k, ap (λ (m : Member). m.number) k),
  (ap (λ (m : Member). m.limits) l, ap (λ (m : Member). m.number) l),
)

both_keep : (old new : TwinMember) → Keeps old.first new.first × Keeps old.second new.second → KeepsTwin old new
both_keep old new h = record {
  first_limits = h.0.0;
  first_number = h.0.1;
  second_limits = h.1.0;
  second_number = h.1.1;
}

-- whatever is done
pub twin_kept : (act : TwinAct) (t : TwinMember) (firsts seconds : List Call) (r : Reply) (after : TwinMember) →
    length t.first.table ≡ slots → PerformsTwin act t firsts seconds r after → KeepsTwin t after
twin_kept (OnFirst act) t firsts seconds r after l h =
    let kept = performs_keeps act t.first firsts r after.first h.0 l in
    both_keep t after ((kept.limits, kept.number), keeps_same t.second after.second h.2)
twin_kept (CloneInto source) t firsts seconds r after l h =
    both_keep t after (cloned_into t.first t.second after.first after.second source firsts seconds h.0 h.1)
twin_kept (AdjClone slot len) t firsts seconds r after l h =
    both_keep t after (keeps_same t.first after.first h.2, resized (adjusted len) TooShort t.second slot h.0 after.second h.1)
twin_kept (TrimClone slot len) t firsts seconds r after l h =
    both_keep t after (keeps_same t.first after.first h.2, resized (trimmed len) TooShort t.second slot h.0 after.second h.1)
twin_kept (CountClone slot) t firsts seconds r after l h =
    both_keep t after (
      keeps_same t.first after.first (ap (λ (x : TwinMember). x.first) h.2),
      keeps_same t.second after.second (ap (λ (x : TwinMember). x.second) h.2),
    )
twin_kept (FreeClone slot) t firsts seconds r after l h =
    both_keep t after (freed_foreign t.first t.second after.first after.second slot firsts seconds h.0 h.1)

-- a reply has room for any act
pub any_twin_room : (act : TwinAct) → HasTwinRoom slots act
any_twin_room (OnFirst act) = any_room act
any_twin_room _ = tt
