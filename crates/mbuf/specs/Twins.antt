-- What a contract sees of a `Twin`.
use Rattle.std.specs.Prelude.{ℕ, ◌≤◌}
use Rattle.commons.specs.Bounds.{IsPool}
use Rattle.commons.specs.Calls.{Side}
use Rattle.commons.specs.declared.limits.Limits.{Limits}
use Rattle.commons.specs.declared.refusal.Refusal.{Refusal}
use Rattle.commons.specs.declared.refusal.Refusal.TheVariants.{BadPool, OutOfMemory}
use Rattle.mbuf.specs.Foreign.{OwnForeign, bases_in}
use Rattle.mbuf.specs.Members.{Member}
use Rattle.mbuf.specs.Own.{OwnWith}

-- a worker's cache and packets of the first pool; and its cache of the second pool with its foreign
-- clones, whose own elements are of the second pool and whose bases are of the first
pub record TwinMember : Type 0 where
  pub first : Member
  pub second : Member

-- It is its worker's own in both pools: the guests of the first are the bases of the foreign
-- clones.
pub record OwnTwin (t : TwinMember) (s u : Side) : Type 0 where
  pub first : OwnWith (bases_in t.second.table) t.first s
  pub second : OwnForeign t.second u

-- why a twin isn't made: either limits are out of range or have no worker of this number; or neither
-- are, and memory was refused
abbrev pub IsTwinCause : Limits → Limits → ℕ → Refusal → Type 0
IsTwinCause first second number BadPool =
    IsPool first → IsPool second → 1 ≤ number → number ≤ first.workers → number ≤ second.workers → ⊥
IsTwinCause first second number OutOfMemory =
    IsPool first × IsPool second × (1 ≤ number) × (number ≤ first.workers) × (number ≤ second.workers)
IsTwinCause first second number _ = ⊥
