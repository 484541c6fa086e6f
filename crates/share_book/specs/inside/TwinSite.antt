-- How a `TwinSite` is kept. No public clause cites this module.
use Rattle.std.specs.Prelude.{ℕ, ◌≡◌, ◌+◌, ◌<◌, List, length}
use Rattle.commons.specs.Lists.{Lists, IsTable, side_of}
use Rattle.mbuf.specs.Twins.{OwnTwin, TwinMember}
use Rattle.pool_model.specs.TwinModel.{TwinPool, after_twin_acts, new_twin_pool}
use Rattle.twin_acts.specs.declared.acts.TwinAct.{TwinAct}
use Rattle.share_book.specs.AsModel.{pools_of}
use Rattle.share_book.specs.TwinSites.{AreTwinPools, TwinLists, twin_at}
use Rattle.share_book.specs.declared.twin_site.TwinSite.TheInside.{Inside}

abbrev pub lists_of : Inside → TwinLists
lists_of t = record { first = t.first; second = t.second; members = t.members.items }

-- the worker at n has the number n + 1 in both pools, and owns its part of the lists of either
pub record IsTwinMember (s u : Lists) (n : ℕ) (t : TwinMember) : Type 0 where
  pub first_number : t.first.number ≡ n + 1
  pub second_number : t.second.number ≡ n + 1
  pub own : OwnTwin t (side_of s (n + 1)) (side_of u (n + 1))

-- the lists of either pool show a table, and each worker owns its part of both
pub record AreTables (s : TwinLists) : Type 0 where
  pub pools : AreTwinPools s.first.limits s.second.limits
  pub first : IsTable s.first
  pub second : IsTable s.second
  pub workers : length s.members ≡ s.first.limits.workers
  pub each : (n : ℕ) → n < length s.members → IsTwinMember s.first s.second n (twin_at s n)

-- some acts, one after another, make these pools of new ones
abbrev pub IsTwinReached : TwinPool → Type 0
IsTwinReached twins =
    (acts : List (ℕ × TwinAct))
    × (twins ≡ after_twin_acts acts (new_twin_pool twins.first.limits twins.second.limits))

-- so the lists are kept, and both pools are such as acts reach
pub record IsTwinSite (t : Inside) : Type 0 where
  pub tables : AreTables (lists_of t)
  pub reached : IsTwinReached (pools_of (lists_of t))
