-- Where packets stand in a pool, and what an act leaves of it, in words.
use Rattle.std.specs.Prelude.{ℕ, ◌≡◌, ◌≢◌, ◌+◌, ◌-◌, ◌≤◌, List, length, slice_index_or, slice_set, Some, None}
use Rattle.std.specs.List.{Contains}
use Rattle.commons.specs.Bag.{bag}
use Rattle.commons.specs.Packets.{pkt_len}
use Rattle.commons.specs.declared.packet.Seg.{Seg}
use Rattle.mbuf.specs.Acts.{Reply}
use Rattle.mbuf.specs.declared.acts.Act.{Act}
use Rattle.mbuf.specs.declared.acts.Act.TheVariants.{ClonePacket}
use Rattle.mbuf.specs.declared.acts.Answer.TheVariants.{Taken}
use Rattle.mbuf.specs.Members.{Member}
use Rattle.pool_model.specs.Pool.{Pool, member_at, own_of}

-- a worker of the pool, and what it has
abbrev pub IsWorker : Pool → ℕ → Type 0
IsWorker pool worker = (1 ≤ worker) × (worker ≤ length pool.members)

abbrev pub worker_of : Pool → ℕ → Member
worker_of pool worker = member_at pool (worker - 1)

-- the packet stands in this slot of a worker
abbrev pub IsInSlot : Pool → ℕ → ℕ → List Seg → Type 0
IsInSlot pool worker slot packet =
    IsWorker pool worker × (slice_index_or (worker_of pool worker).table slot None ≡ Some packet)

-- the packet lies on this desk
abbrev pub IsOnDesk : Pool → ℕ → List Seg → Type 0
IsOnDesk pool desk packet = slice_index_or pool.shared.desks desk None ≡ Some packet

-- a segment of a packet that stands in a slot of a worker or lies on a desk
pub data IsOfAPacket (pool : Pool) (seg : Seg) : Type 0 where
  InASlot : (worker slot : ℕ) (packet : List Seg) → IsInSlot pool worker slot packet →
      Contains packet seg → IsOfAPacket pool seg
  OnADesk : (desk : ℕ) (packet : List Seg) → IsOnDesk pool desk packet → Contains packet seg →
      IsOfAPacket pool seg

-- A packet that lay on a desk was given to a worker of the pool, into this slot, and the desk is
-- empty. The worker keeps all else that it has, and so do the stack and the other desks.
pub record WasGiven (taker desk slot : ℕ) (packet : List Seg) (before : Pool) (done : Reply × Pool)
    : Type 0 where
  pub reply : done.0 ≡ Taken slot (length packet) (pkt_len packet)
  pub stands : IsInSlot done.1 taker slot packet
  pub empty : slice_index_or done.1.shared.desks desk None ≡ None
  pub rest : worker_of done.1 taker ≡ record (worker_of before taker)
      { table = slice_set (worker_of before taker).table slot (Some packet) }
  pub shared : done.1.shared ≡ record before.shared { desks = slice_set before.shared.desks desk None }

-- These elements, and no others, have become own elements of packets: each of them is one, of a
-- packet in a slot or on a desk, and any other is one no more often than before.
pub record GaveOnly (new : List ℕ) (before after : Pool) : Type 0 where
  pub stands : (i : ℕ) → bag new i ≤ own_of after.members after.shared.desks i
  pub no_others : (i : ℕ) → own_of after.members after.shared.desks i
      ≤ own_of before.members before.shared.desks i + bag new i

-- A clone was given up: the limits, the desks and all of every worker but this one's cache are as
-- before, and its cache and the common list have each element as often as before, taken together.
-- The stack has been changed as often as before, or more often.
pub record IsGivenUp (worker : ℕ) (before after : Pool) : Type 0 where
  pub limits : after.limits ≡ before.limits
  pub workers : length after.members ≡ length before.members
  pub packets : worker_of after worker
      ≡ record (worker_of before worker) { cache = (worker_of after worker).cache }
  pub others : (n : ℕ) → worker ≢ n + 1 → member_at after n ≡ member_at before n
  pub desks : after.shared.desks ≡ before.shared.desks
  pub free : (i : ℕ) → bag (worker_of after worker).cache i + bag after.shared.common i
      ≡ bag (worker_of before worker).cache i + bag before.shared.common i
  pub changes : before.shared.changes ≤ after.shared.changes

-- What a refused act leaves of the pool: all of it is as before; of a clone what IsGivenUp says.
abbrev pub PoolAsBefore : ℕ → Act → Pool → Pool → Type 0
PoolAsBefore worker (ClonePacket source) before after = IsGivenUp worker before after
PoolAsBefore worker _ before after = after ≡ before
