-- In a pool that acts made of a new one each packet is one, no count passes the reference limit,
-- and bases are direct.
use Rattle.std.proofs.Common.{ℕ, ◌≡◌, ◌+◌, ◌-◌, ◌<◌, ◌≤◌, inl, inr, List, length, get_or, get_or-set_other, get_or-set_same, replicate, Option, Some, None, refl, subst, ◌∙◌, ap, arith}
use Rattle.std.proofs.lemmas.Bool.{cases_lt}
use Rattle.std.proofs.lemmas.List.{get_or_past, get_or-replicate, length-replicate}
use Rattle.commons.proofs.PacketBags.{held_in-empty}
use Rattle.commons.proofs.Places.{apart_or_same}
use Rattle.commons.specs.Bounds.{IsPool}
use Rattle.commons.specs.declared.limits.Limits.{Limits}
use Rattle.commons.specs.declared.packet.Seg.{Seg}
use Rattle.mbuf.specs.Acts.{Reply}
use Rattle.mbuf.specs.declared.acts.Act.{Act}
use Rattle.mbuf.specs.Members.{Member, slots}
use Rattle.pool_model.specs.Pool.{Shared, Pool, held_of, member_at, new_members, new_pool, nobody, with_member}
use Rattle.pool_model.specs.PacketModel.{act_on, after_acts, held_elsewhere, perform}
use Rattle.pool_model.specs.Sound.{IsPacketOf, IsSound}
use Rattle.pool_model.proofs.ActLeaves.{by_others, by_others-add, held_by-set, of_act}
use Rattle.pool_model.proofs.AfterActs.{after_acts-keeps}
use Rattle.pool_model.proofs.Balance.{held_by-new, near_once}
use Rattle.pool_model.proofs.BasesDirect.{HasDirectBases, direct_base, new_pool-direct, with_member-direct}
use Rattle.pool_model.proofs.Leaves.{Leaves}
use Rattle.pool_model.proofs.NewMembers.{get_or-new_members, length-new_members, newcomer}
use Rattle.pool_model.proofs.PacketsStay.{ArePackets, AreSlotsOf, act_stays}

-- what acts keep: with bases direct, each worker has the pool's limits, whose reference limit is
-- not 0, its packets and those on desks are packets, and no count passes that limit
record IsKeptSound (pool : Pool) : Type 0 where
  direct : HasDirectBases pool
  limits : (n : ℕ) → (member_at pool n).limits ≡ pool.limits
  low : 1 ≤ pool.limits.ref_limit
  packets : (n : ℕ) → AreSlotsOf pool.limits.buf (member_at pool n).table
  desks : AreSlotsOf pool.limits.buf pool.shared.desks
  counts : (i : ℕ) → held_of pool.members pool.shared.desks i ≤ pool.limits.ref_limit

-- what holds of each worker holds once one of them has changed, where it holds of that one
each_member : (P : Member → Type 0) (pool : Pool) (n : ℕ) (m : Member) (s : Shared) → n < length pool.members → P m →
    ((k : ℕ) → P (member_at pool k)) → (k : ℕ) → P (member_at (with_member pool n m s) k)
each_member P pool n m s within is all k = elim (apart_or_same n k) [
  | inl same ↦ rw (same, get_or-set_same pool.members n m (nobody pool.limits) within) is
  | inr other ↦ rw (get_or-set_other pool.members n k m (nobody pool.limits) other) (all k)
]

-- the worker who acts leaves packets, direct bases and counts within the limit; no other changes
with_member-sound : (act : Act) (pool : Pool) (n : ℕ) (done : Reply × Member × Shared) →
    IsKeptSound pool → n < length pool.members →
    done ≡ act_on pool n act →
    Leaves act (by_others pool n) (member_at pool n) pool.shared done → IsKeptSound (with_member pool n done.1 done.2)
with_member-sound act pool n done b within is left =
    let m : Member = member_at pool n in
    let same : m.limits ≡ pool.limits = b.limits n in
    let buf : m.limits.buf ≡ pool.limits.buf = ap (λ (l : Limits). l.buf) same in
    let limit : m.limits.ref_limit ≡ pool.limits.ref_limit = ap (λ (l : Limits). l.ref_limit) same in
    let before : ArePackets m.limits.buf m pool.shared = rw buf (b.packets n, b.desks) in
    let stays : (r : Reply × Member × Shared) → r ≡ act_on pool n act → Leaves act
    (by_others pool n) m pool.shared r → ArePackets m.limits.buf r.1 r.2 = λ r e l.
    rw e (act_stays act (by_others pool n) (held_of pool.members pool.shared.desks)
    (held_elsewhere pool n) m pool.shared
    (subst (Leaves act (by_others pool n) m pool.shared) e l) before) in
    let after : ArePackets pool.limits.buf done.1 done.2 =
    subst (λ (x : ℕ). ArePackets x done.1 done.2) buf (stays done is left) in
    record {
      direct = with_member-direct act pool n done b.direct within left;
      limits =
          each_member (λ (x : Member). x.limits ≡ pool.limits) pool n done.1 done.2 within
          (left.limits ∙ same) b.limits;
      low = b.low;
      packets =
          each_member (λ (x : Member). AreSlotsOf pool.limits.buf x.table) pool n done.1 done.2
          within after.0 b.packets;
      desks = after.1;
      counts = λ i.
          let others = by_others-add pool n i within in
          let held = held_by-set pool.members n done.1 (nobody pool.limits) i within in
          let kept = left.counts i (near_once pool n i b.direct.balanced within) (omega (arith, b.low, limit))
          (omega (arith, b.counts i, others, limit)) in
          omega (arith, others, held, kept, limit);
    }

-- a refused stranger changes nothing, and each worker's act leaves a sound pool sound
perform-sound : (pool : Pool) (w : ℕ) (act : Act) → IsKeptSound pool → IsKeptSound (perform pool w act).1
perform-sound pool w act b =
    of_act (λ r. IsKeptSound r.1) pool w act b
    (λ n done number within is left. with_member-sound act pool n done b within is left)

-- ---- a new pool

-- a table in which nothing stands has nothing that could be no packet
no_packet : (buf n : ℕ) → AreSlotsOf buf (replicate n None)
no_packet buf n k = elim (cases_lt k n) [
  | inl within ↦ rw (get_or-replicate {A = Option (List Seg)} n k None None within) tt
  | inr past ↦
      rw (get_or_past {X = Option (List Seg)} (replicate n None) k None
      (omega (arith, length-replicate {A = Option (List Seg)} n None, past))) tt
]

-- what holds of newcomers and of nobody holds of each worker of a new pool
each_newcomer : (P : Member → Type 0) (l : Limits) → ((number : ℕ) → P (newcomer l number)) → P (nobody l) → (n : ℕ) →
    P (member_at (new_pool l) n)
each_newcomer P l new none n = elim (cases_lt n l.workers) [
  | inl within ↦ rw (get_or-new_members l 1 l.workers n (nobody l) within) (new (1 + n))
  | inr past ↦
      rw (get_or_past (new_members l 1 l.workers) n (nobody l)
      (omega (arith, length-new_members l 1 l.workers, past))) none
]

-- a new pool has no packet and no hold, and its reference limit is at least 1
new_pool-sound : (l : Limits) → 1 ≤ l.ref_limit → IsKeptSound (new_pool l)
new_pool-sound l low = record {
  direct = new_pool-direct l;
  limits = each_newcomer (λ (m : Member). m.limits ≡ l) l (λ number. refl) refl;
  low = low;
  packets = each_newcomer (λ (m : Member). AreSlotsOf l.buf m.table) l (λ number. no_packet l.buf slots) (λ slot. tt);
  desks = no_packet l.buf l.desks;
  counts = λ i. omega (arith, held_by-new l 1 l.workers i, held_in-empty l.desks i);
}

-- ---- any pool

-- what stands in a slot of a table of packets is one
is_packet : (buf : ℕ) (table : List (Option (List Seg))) (slot : ℕ) (packet : List Seg) → AreSlotsOf buf table →
    get_or table slot None ≡ Some packet → IsPacketOf buf packet
is_packet buf table slot packet all there = rw there at (all slot)

-- what is kept of each worker's table, by place, is what is said of each packet, by slot
is_sound : (pool : Pool) → IsKeptSound pool → IsSound pool
is_sound pool b = record {
  in_slots = λ worker slot packet stands. is_packet pool.limits.buf (member_at pool (worker - 1)).table slot packet
      (b.packets (worker - 1)) stands.1;
  on_desks = λ desk packet lies. is_packet pool.limits.buf pool.shared.desks desk packet b.desks lies;
  counts = b.counts;
  direct = λ seg other one two e. direct_base pool seg other other.base b.direct one two e refl;
}

-- a new pool is sound, and each act leaves it so
pub acts-sound : (l : Limits) (acts : List (ℕ × Act)) → IsPool l → IsSound (after_acts acts (new_pool l))
acts-sound l acts p =
    is_sound (after_acts acts (new_pool l))
    (after_acts-keeps IsKeptSound perform-sound acts (new_pool l) (new_pool-sound l p.refs_low))
