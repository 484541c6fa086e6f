-- The statement of a sound pool lists sound packets.
use Rattle.std.proofs.Common.{ℕ, ◌≤◌, List, subst}
use Rattle.std.specs.List.{Contains}
use Rattle.commons.specs.Bounds.{IsPool}
use Rattle.commons.specs.declared.limits.Limits.{Limits}
use Rattle.commons.specs.declared.packet.Seg.{Seg}
use Rattle.mbuf.specs.declared.acts.Act.{Act}
use Rattle.pool_statement.specs.declared.statement.DeskPacket.{DeskPacket}
use Rattle.pool_statement.specs.declared.statement.PlacedPacket.{PlacedPacket}
use Rattle.pool_model.specs.Pool.{Pool, new_pool}
use Rattle.pool_model.specs.PacketModel.{after_acts}
use Rattle.pool_model.specs.Sound.{IsListed, IsPacketOf, IsSound, ListedInASlot, ListedOnADesk, ListsSoundPackets}
use Rattle.pool_model.specs.Standing.{IsOfAPacket, InASlot, OnADesk}
use Rattle.pool_model.specs.Statements.{statement_of}
use Rattle.pool_model.proofs.ListedPackets.{listed_counts, listed_in_slots, listed_on_desks}
use Rattle.pool_model.proofs.Numbered.{acts-numbered}
use Rattle.pool_model.proofs.Sound.{acts-sound}

-- a segment that is listed is one of a packet of the pool
listed_stands : (pool : Pool) (seg : Seg) → IsListed (statement_of pool) seg → IsOfAPacket pool seg
listed_stands pool seg (ListedInASlot placed there within) =
    let all = listed_in_slots (λ packet. Contains packet seg → IsOfAPacket pool seg) pool
    (λ worker slot packet stands. InASlot worker slot packet stands) in
    subst (λ (x : PlacedPacket). Contains x.segs seg → IsOfAPacket pool seg) there.2 (all there.0 placed there.1) within
listed_stands pool seg (ListedOnADesk packet there within) =
    let all = listed_on_desks (λ packet. Contains packet seg → IsOfAPacket pool seg) 0 pool.shared.desks
    (λ desk packet lies. OnADesk desk packet lies) in
    subst (λ (x : DeskPacket). Contains x.segs seg → IsOfAPacket pool seg) there.2 (all there.0 packet there.1) within

-- the statement of a sound pool lists sound packets
lists_sound_packets : (pool : Pool) → IsSound pool → ListsSoundPackets pool.limits (statement_of pool)
lists_sound_packets pool sound = record {
  in_slots = listed_in_slots (IsPacketOf pool.limits.buf) pool sound.in_slots;
  on_desks = listed_on_desks (IsPacketOf pool.limits.buf) 0 pool.shared.desks sound.on_desks;
  counts = listed_counts (λ count. count ≤ pool.limits.ref_limit) pool sound.counts;
  direct = λ seg other one two e. sound.direct seg other (listed_stands pool seg one) (listed_stands pool other two) e;
}

-- after any acts of its workers a new pool's statement lists sound packets
pub acts_list_sound_packets : (l : Limits) (acts : List (ℕ × Act)) → IsPool l →
    ListsSoundPackets l (statement_of (after_acts acts (new_pool l)))
acts_list_sound_packets l acts p =
    let pool = after_acts acts (new_pool l) in
    subst (λ (x : Limits). ListsSoundPackets x (statement_of pool)) (acts-numbered l acts).limits
    (lists_sound_packets pool (acts-sound l acts p))
