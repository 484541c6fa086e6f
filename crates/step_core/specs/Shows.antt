-- The table that a world shows.
use Rattle.std.specs.Prelude.{◌≡◌, ℕ, ◌+◌, ◌<◌, ◌≤◌, List, length, Option, MatchOption}
use Rattle.commons.specs.Bag.{bag}
use Rattle.step_core.specs.Table.{Place, Common, Hand, Held, Table, Event, worker_of, EventLeads, SameTable}
use Rattle.step_core.specs.World.{World, view_of, desk_at, link_in, shelf}
use Rattle.step_core.specs.Links.{Spells}

-- how often one element is in the common list, in each worker's hand, in each worker's holds and
-- on each full desk
pub record Standing : Type 0 where
  pub common : ℕ
  pub hand : ℕ → ℕ
  pub holder : ℕ → ℕ
  pub desk : ℕ → ℕ

abbrev pub standing : World → List ℕ → ℕ → Standing
standing w common i = record {
  common = bag common i;
  hand = λ worker. bag (view_of w.views worker).hand i + bag (view_of w.views worker).zeros i;
  holder = λ worker. bag (view_of w.views worker).holds i;
  desk = λ d. bag (shelf (desk_at w.desks d)) i;
}

-- the place is true of the element
abbrev pub Stands : Standing → Place → Type 0
Stands s Common = 0 < s.common
Stands s (Hand worker) = 0 < s.hand worker
Stands s (Held ws ds) =
    (0 < length ws + length ds) × ((worker : ℕ) → bag ws worker ≡ s.holder worker)
    × ((d : ℕ) → bag ds d ≡ s.desk d)

-- no two places are true of it, and it is common, or in a hand, once
pub record OnePlace (s : Standing) : Type 0 where
  pub common_once : s.common ≤ 1
  pub hand_once : (k : ℕ) → s.hand k ≤ 1
  pub one_hand : (j k : ℕ) → 0 < s.hand j → 0 < s.hand k → j ≡ k
  pub common_alone : 0 < s.common → (k : ℕ) → (s.hand k ≡ 0) × (s.holder k ≡ 0) × (s.desk k ≡ 0)
  pub hand_alone : (k : ℕ) → 0 < s.hand k → (j : ℕ) → (s.holder j ≡ 0) × (s.desk j ≡ 0)

-- each element of the pool has the one place that is true of it
pub record ShowsTable (w : World) (t : Table) : Type 0 where
  pub common : List ℕ
  pub spelled : Spells (link_in w.links) w.head.top common
  pub one : (i : ℕ) → i < w.limits.population → OnePlace (standing w common i)
  pub stands : (i : ℕ) → i < w.limits.population → Stands (standing w common i) (t i)

-- from one table to the next by one event of this worker, or by none
abbrev pub Happens : ℕ → ℕ → Option Event → Table → Table → Type 0
Happens n worker e t u = MatchOption e (SameTable n t u) (λ e. (worker_of e ≡ worker) × EventLeads n e t u)
