-- What holds of all packets of a pool, and of those that a statement lists.
use Rattle.std.specs.Prelude.{ℕ, ◌≡◌, ◌≤◌, All, List, Some, None}
use Rattle.std.specs.List.{Contains}
use Rattle.commons.specs.declared.limits.Limits.{Limits}
use Rattle.commons.specs.declared.packet.Seg.{Seg}
use Rattle.commons.specs.Packets.{IsPacket}
use Rattle.pool_statement.specs.declared.statement.DeskPacket.{DeskPacket}
use Rattle.pool_statement.specs.declared.statement.PlacedPacket.{PlacedPacket}
use Rattle.pool_statement.specs.declared.statement.Statement.{Statement}
use Rattle.pool_model.specs.Pool.{Pool, held_of}
use Rattle.pool_model.specs.Standing.{IsInSlot, IsOfAPacket, IsOnDesk}

-- a packet of a pool with buffers of this length: 1 to 32 segments, each with its data within its
-- buffer
pub record IsPacketOf (buf : ℕ) (segs : List Seg) : Type 0 where
  pub packet : IsPacket segs
  pub buffers : All (λ seg. seg.buf_len ≡ buf) segs

-- Each packet in a slot and on a desk is one of this pool, no element is held more often than the
-- reference limit says, and a segment whose element is another segment's base has no base itself.
pub record IsSound (pool : Pool) : Type 0 where
  pub in_slots : (worker slot : ℕ) (packet : List Seg) → IsInSlot pool worker slot packet →
      IsPacketOf pool.limits.buf packet
  pub on_desks : (desk : ℕ) (packet : List Seg) → IsOnDesk pool desk packet →
      IsPacketOf pool.limits.buf packet
  pub counts : (i : ℕ) → held_of pool.members pool.shared.desks i ≤ pool.limits.ref_limit
  pub direct : (seg other : Seg) → IsOfAPacket pool seg → IsOfAPacket pool other →
      seg.base ≡ Some other.elem → other.base ≡ None

-- a segment of a packet that a statement lists, in a slot or on a desk
pub data IsListed (s : Statement) (seg : Seg) : Type 0 where
  ListedInASlot : (placed : PlacedPacket) → Contains s.packets placed → Contains placed.segs seg →
      IsListed s seg
  ListedOnADesk : (packet : DeskPacket) → Contains s.desks packet → Contains packet.segs seg → IsListed s seg

-- The same of a statement of a pool within these limits: each packet that it lists is one of the
-- pool, each count is at most the reference limit, and a segment whose element is another
-- segment's base has no base itself.
pub record ListsSoundPackets (l : Limits) (s : Statement) : Type 0 where
  pub in_slots : All (λ placed. IsPacketOf l.buf placed.segs) s.packets
  pub on_desks : All (λ packet. IsPacketOf l.buf packet.segs) s.desks
  pub counts : All (λ held. held.count ≤ l.ref_limit) s.held
  pub direct : (seg other : Seg) → IsListed s seg → IsListed s other → seg.base ≡ Some other.elem →
      other.base ≡ None

-- Of any statement: each packet that it lists, in a slot and on a desk, is one, of 1 to 32
-- segments, each with its data within its buffer.
pub record ListsOnlyPackets (s : Statement) : Type 0 where
  pub in_slots : All (λ placed. IsPacket placed.segs) s.packets
  pub on_desks : All (λ packet. IsPacket packet.segs) s.desks
