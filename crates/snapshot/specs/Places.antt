-- Where the packets of a statement stand in a snapshot.
use Rattle.std.specs.Prelude.{◌≡◌, ◌<◌, ◌≤◌, All, AllPairs, Contains, None, Some, length, slice_index_or}
use Rattle.pool_model.specs.Statements.{StandsBefore}
use Rattle.pool_statement.specs.declared.statement.PlacedPacket.{PlacedPacket}
use Rattle.pool_statement.specs.declared.statement.Statement.{Statement}
use Rattle.snapshot.specs.declared.snapshot.ShareData.{ShareData}
use Rattle.snapshot.specs.declared.snapshot.Snapshot.{Snapshot}

-- a packet stands in the share of its worker, in the place that has the number of its slot
abbrev pub IsInItsShare : Snapshot → PlacedPacket → Type 0
IsInItsShare s placed =
    (share : ShareData) × Contains s.shares share × (share.worker ≡ placed.worker)
    × (slice_index_or share.slots placed.slot None ≡ Some placed.segs)

-- The statement has as many elements as the snapshot's limits say, and a cache for each worker. Its
-- packets ascend by worker and slot, and those on desks by desk, so that no two stand in one place
-- or on one desk; each stands where it does in the snapshot's shares, however many places these
-- have, or on a desk of the pool.
pub record PlacesItsPackets (s : Snapshot) (statement : Statement) : Type 0 where
  pub population : statement.population ≡ s.limits.population
  pub caches : length statement.caches ≡ s.limits.workers
  pub packets : AllPairs StandsBefore statement.packets
  pub workers : All (λ placed. (1 ≤ placed.worker) × (placed.worker ≤ s.limits.workers)) statement.packets
  pub placed : All (IsInItsShare s) statement.packets
  pub desks : AllPairs (λ one other. one.desk < other.desk) statement.desks
  pub on_desks : All (λ packet. packet.desk < s.limits.desks) statement.desks
