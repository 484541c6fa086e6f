-- What each act of a worker of two pools does, and what is replied.
use Rattle.std.specs.Prelude.{ℕ, ◌≡◌, List, [], slice_index_or, None, Result}
use Rattle.commons.specs.Calls.{Call, Side}
use Rattle.commons.specs.declared.refusal.Refusal.{Refusal}
use Rattle.commons.specs.declared.refusal.Refusal.TheVariants.{TooShort}
use Rattle.mbuf.specs.Acts.{HasRoom, Performs, Reply, cloned, freed, told_count, told_len}
use Rattle.mbuf.specs.Foreign.{ClonesInto, FreesForeign}
use Rattle.mbuf.specs.Fresh.{AreFresh}
use Rattle.mbuf.specs.Lengths.{adjusted, trimmed}
use Rattle.mbuf.specs.PacketRules.{Resizes}
use Rattle.mbuf.specs.Refused.{AsBefore, PacketsAsBefore}
use Rattle.mbuf.specs.Sharing.{CountsOf}
use Rattle.mbuf.specs.Twins.{TwinMember}
use Rattle.mbuf.specs.declared.freed.Freed.{Freed}
use Rattle.twin_acts.specs.declared.acts.TwinAct.{TwinAct}
use Rattle.twin_acts.specs.declared.acts.TwinAct.TheVariants.{OnFirst, CloneInto, AdjClone, TrimClone, CountClone, FreeClone}

-- an answer with this room can tell of the act
abbrev pub HasTwinRoom : ℕ → TwinAct → Type 0
HasTwinRoom room (OnFirst act) = HasRoom room act
HasTwinRoom room _ = Unit {0}

-- What an act does: the calls that are made on either pool with their answers, the reply, and what
-- the worker has afterwards.
abbrev pub PerformsTwin : TwinAct → TwinMember → List Call → List Call → Reply → TwinMember → Type 0
PerformsTwin (OnFirst act) t firsts seconds r after =
    Performs act t.first firsts r after.first × (seconds ≡ []) × (after.second ≡ t.second)
PerformsTwin (CloneInto source) t firsts seconds r after =
    (answer : Result ℕ Refusal)
    × ClonesInto t.first t.second source firsts seconds answer after.first after.second
    × (r ≡ cloned answer after.second.table)
PerformsTwin (AdjClone slot len) t firsts seconds r after =
    (answer : Result ℕ Refusal) × Resizes (adjusted len) TooShort t.second slot answer after.second
    × (after.first ≡ t.first) × (firsts ≡ []) × (seconds ≡ []) × (r ≡ told_len answer)
PerformsTwin (TrimClone slot len) t firsts seconds r after =
    (answer : Result ℕ Refusal) × Resizes (trimmed len) TooShort t.second slot answer after.second
    × (after.first ≡ t.first) × (firsts ≡ []) × (seconds ≡ []) × (r ≡ told_len answer)
PerformsTwin (CountClone slot) t firsts seconds r after =
    (answer : Result ℕ Refusal) × CountsOf (slice_index_or t.second.table slot None) seconds answer
    × (after ≡ t) × (firsts ≡ []) × (r ≡ told_count answer)
PerformsTwin (FreeClone slot) t firsts seconds r after =
    (answer : Result Freed Refusal)
    × FreesForeign t.first t.second slot firsts seconds answer after.first after.second
    × (r ≡ freed answer)

-- What is told of as new is of the first pool, where the act is one on its packets, and else of the
-- second; the worker held none of it.
abbrev pub AreFreshByAct : TwinAct → TwinMember → Side → Side → List ℕ → Type 0
AreFreshByAct (OnFirst act) t s u elems = AreFresh t.first.limits.population s.holds elems
AreFreshByAct (CloneInto source) t s u elems = AreFresh t.second.limits.population u.holds elems
AreFreshByAct _ t s u elems = elems ≡ []

-- Both sides and all that the worker has are as before.
pub record AllAsBefore (t : TwinMember) (s u : Side) (after : TwinMember) (s' u' : Side) : Type 0 where
  pub worker : after ≡ t
  pub first : s' ≡ s
  pub second : u' ≡ u

-- The worker's packets of the first pool are as an act on them leaves them that is refused; of the
-- second all is as before.
pub record FirstAsBefore (rule : Type 0) (t : TwinMember) (u : Side) (after : TwinMember) (u' : Side) : Type 0 where
  pub first : rule
  pub worker : after.second ≡ t.second
  pub second : u' ≡ u

-- All but caches and hands is as before in both pools.
pub record BothAsBefore (t : TwinMember) (s u : Side) (after : TwinMember) (s' u' : Side) : Type 0 where
  pub first : PacketsAsBefore t.first s after.first s'
  pub second : PacketsAsBefore t.second u after.second u'

-- What a refused act leaves: all is as before in both pools; but a clone that is given up may share
-- out the free elements differently between caches and stacks.
abbrev pub TwinAsBefore : TwinAct → TwinMember → Side → Side → TwinMember → Side → Side → Type 0
TwinAsBefore (OnFirst act) t s u after s' u' = FirstAsBefore (AsBefore act t.first s after.first s') t u after u'
TwinAsBefore (CloneInto source) t s u after s' u' = BothAsBefore t s u after s' u'
TwinAsBefore _ t s u after s' u' = AllAsBefore t s u after s' u'

-- it is the same worker of the same pools
pub record KeepsTwin (old new : TwinMember) : Type 0 where
  pub first_limits : new.first.limits ≡ old.first.limits
  pub first_number : new.first.number ≡ old.first.number
  pub second_limits : new.second.limits ≡ old.second.limits
  pub second_number : new.second.number ≡ old.second.number
