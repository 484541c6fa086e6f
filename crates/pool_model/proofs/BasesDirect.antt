-- In a pool that acts made of a new one, a base is never the element of an indirect segment.
use Rattle.std.proofs.Common.{ℕ, zero, suc, ◌≡◌, ◌+◌, ◌-◌, ◌<◌, ◌≤◌, List, [], ◌∷◌, length, get_or, set, replicate, Option, Some, None, refl, ap, ◌∙◌, arith}
use Rattle.std.specs.Prelude.{sum_by}
use Rattle.std.proofs.lemmas.List.Sums.{get_or-le-sum_by, sum_by-cons, sum_by-set}
use Rattle.commons.specs.declared.limits.Limits.{Limits}
use Rattle.commons.specs.declared.packet.Seg.{Seg}
use Rattle.commons.specs.Packets.{held_in, own_in}
use Rattle.commons.proofs.PacketBags.{stands_within}
use Rattle.mbuf.specs.declared.acts.Act.{Act}
use Rattle.mbuf.specs.Acts.{Reply}
use Rattle.mbuf.specs.Members.{Member, slots}
use Rattle.pool_model.specs.Pool.{Shared, Pool, held_by, member_at, new_members, new_pool, nobody, own_by, with_member}
use Rattle.pool_model.specs.PacketModel.{after_acts, perform}
use Rattle.pool_model.specs.Standing.{IsInSlot, IsOfAPacket, InASlot, OnADesk, worker_of}
use Rattle.pool_model.proofs.ActLeaves.{after_act, by_others, by_others-add}
use Rattle.pool_model.proofs.AfterActs.{after_acts-keeps}
use Rattle.pool_model.proofs.Balance.{IsBalanced, near_once, new_pool-balanced, with_member-balanced}
use Rattle.pool_model.proofs.Leaves.{Leaves}
use Rattle.pool_model.proofs.Links.{based_by_seg, based_in, based_in-empty, based_slot, held_split, indirect_by_seg, indirect_in, indirect_in-own, indirect_slot, links_stay}

-- how often all members' packets have an element as a base, and as the own one of an indirect
-- segment
abbrev based_by : List Member → ℕ → ℕ
based_by members i = sum_by (λ member. based_in member.table i) members

abbrev indirect_by : List Member → ℕ → ℕ
indirect_by members i = sum_by (λ member. indirect_in member.table i) members

-- Each element is in one place, and none is both a base and an indirect segment's own.
pub record HasDirectBases (pool : Pool) : Type 0 where
  pub balanced : IsBalanced pool
  pub direct : (i : ℕ) → 0 < based_by pool.members i + based_in pool.shared.desks i →
      indirect_by pool.members i + indirect_in pool.shared.desks i ≡ 0

-- all members' holds are of bases and of own elements
held_by-split : (members : List Member) (i : ℕ) → held_by members i ≡ based_by members i + own_by members i
held_by-split [] i = refl
held_by-split (m ∷ members) i = omega (
  arith,
  held_by-split members i,
  held_split m.table i,
  sum_by-cons (λ (m : Member). held_in m.table i) m members,
  sum_by-cons (λ (m : Member). based_in m.table i) m members,
  sum_by-cons (λ (m : Member). own_in m.table i) m members,
)

-- an indirect segment's element is an own one, so in no table is it the first more often
indirect_by-own : (members : List Member) (i : ℕ) → indirect_by members i ≤ own_by members i
indirect_by-own [] i = omega arith
indirect_by-own (m ∷ members) i = omega (
  arith,
  indirect_by-own members i,
  indirect_in-own m.table i,
  sum_by-cons (λ (m : Member). indirect_in m.table i) m members,
  sum_by-cons (λ (m : Member). own_in m.table i) m members,
)

-- what the others have, and what one has once it has changed, are all
module _ (pool : Pool) (n : ℕ) (within : n < length pool.members) (m : Member) (i : ℕ) where
  -- the pool's workers, with one that has nothing in the place of this one
  abbrev others : List Member
  others = set pool.members n (nobody pool.limits)

  -- the own elements of the others and of this worker are those of all
  own_apart : own_by others i + own_in (member_at pool n).table i ≡ own_by pool.members i
  own_apart =
      omega (
        arith,
        sum_by-set (λ (m : Member). own_in m.table i) pool.members n
            (nobody pool.limits) (nobody pool.limits) within,
      )

  -- the bases of the others and of this worker are those of all, before and once it has changed
  based_apart : (based_by others i + based_in (member_at pool n).table i ≡ based_by pool.members i)
      × (based_by (set pool.members n m) i ≡ based_by others i + based_in m.table i)
  based_apart =
      let before : based_by others i + based_in (member_at pool n).table i
      ≡ based_by pool.members i =
      omega (
        arith,
        sum_by-set (λ (m : Member). based_in m.table i) pool.members n
            (nobody pool.limits) (nobody pool.limits) within,
      ) in (
        before,
        omega (
          arith,
          before,
          sum_by-set (λ (m : Member). based_in m.table i) pool.members n
              m (nobody pool.limits) within,
        ),
      )

  indirect_apart :
      (indirect_by others i + indirect_in (member_at pool n).table i ≡ indirect_by pool.members i)
      × (indirect_by (set pool.members n m) i ≡ indirect_by others i + indirect_in m.table i)
  indirect_apart =
      let before : indirect_by others i + indirect_in (member_at pool n).table i
      ≡ indirect_by pool.members i =
      omega (
        arith,
        sum_by-set (λ (m : Member). indirect_in m.table i) pool.members n
            (nobody pool.limits) (nobody pool.limits) within,
      ) in (
        before,
        omega (
          arith,
          before,
          sum_by-set (λ (m : Member). indirect_in m.table i) pool.members
              n m (nobody pool.limits) within,
        ),
      )

-- a worker's act makes no base of an indirect segment's element, nor such a segment of a base
pub with_member-direct : (act : Act) (pool : Pool) (n : ℕ) (done : Reply × Member × Shared) →
    HasDirectBases pool → n < length pool.members →
    Leaves act (by_others pool n) (member_at pool n) pool.shared done →
    HasDirectBases (with_member pool n done.1 done.2)
with_member-direct act pool n done b within left = record {
  balanced = with_member-balanced act pool n done b.balanced within left;
  direct = λ i some.
      let m : Member = member_at pool n in
      let s = pool.shared in
      let others = set pool.members n (nobody pool.limits) in
      let own = own_apart pool n within done.1 i in
      let based = based_apart pool n within done.1 i in
      let indirect = indirect_apart pool n within done.1 i in
      let stays =
      links_stay (own_by others i) (based_by others i) (indirect_by others i)
      (by_others pool n i + held_in s.desks i + held_in m.table i)
      (own_in m.table i + own_in s.desks i) (based_in m.table i + based_in s.desks i)
      (indirect_in m.table i + indirect_in s.desks i)
      (based_in done.1.table i + based_in done.2.desks i)
      (indirect_in done.1.table i + indirect_in done.2.desks i)
      (omega (
        arith,
        by_others-add pool n i within,
        held_by-split pool.members i,
        held_split s.desks i,
        own,
        based.0,
      )) (omega (arith, own, b.balanced.own i))
      (indirect_by-own others i)
      (omega (arith, indirect_in-own m.table i, indirect_in-own s.desks i))
      (λ here. omega (arith, indirect.0, b.direct i (omega (arith, here, based.0))))
      (left.links i (near_once pool n i b.balanced within)) in
      omega (arith, indirect.1, stays (omega (arith, some, based.1)));
}

-- a refused stranger changes nothing, and each worker's act keeps bases direct
perform-direct : (pool : Pool) (w : ℕ) (act : Act) → HasDirectBases pool → HasDirectBases (perform pool w act).1
perform-direct pool w act b =
    after_act HasDirectBases pool w act b
    (λ n done h left. with_member-direct act pool n done b h left)

-- new members have no packet
based_by-new : (l : Limits) (number n i : ℕ) → based_by (new_members l number n) i ≡ 0
based_by-new l number zero i = refl
based_by-new l number (suc n) i =
    let m : Member = record { limits = l; number = number; cache = []; table = replicate slots None } in
    sum_by-cons (λ (m : Member). based_in m.table i) m (new_members l (number + 1) n)
    ∙ omega (arith, based_in-empty slots i, based_by-new l (number + 1) n i)

-- a new pool has no packet, so no base
pub new_pool-direct : (l : Limits) → HasDirectBases (new_pool l)
new_pool-direct l = record {
  balanced = new_pool-balanced l;
  direct = λ i some. absurd (omega (arith, some, based_by-new l 1 l.workers i, based_in-empty l.desks i));
}

acts-direct : (l : Limits) (acts : List (ℕ × Act)) → HasDirectBases (after_acts acts (new_pool l))
acts-direct l acts = after_acts-keeps HasDirectBases perform-direct acts (new_pool l) (new_pool-direct l)

-- ---- of segments

-- a packet in a slot or on a desk is among all
in_table : (f : Option (List Seg) → ℕ) (table : List (Option (List Seg))) (slot : ℕ)
    (packet : List Seg) → get_or table slot None ≡ Some packet → f (Some packet) ≤ sum_by f table
in_table f table slot packet there =
    omega (
      arith,
      get_or-le-sum_by f table slot None (stands_within table slot packet there),
      ap f there,
    )

-- a packet in a slot of a worker is counted among all members' packets
in_pool : (f : Option (List Seg) → ℕ) (pool : Pool) (worker slot : ℕ) (packet : List Seg) →
    IsInSlot pool worker slot packet →
    f (Some packet) ≤ sum_by (λ (m : Member). sum_by f m.table) pool.members
in_pool f pool worker slot packet stands = omega (
  arith,
  in_table f (worker_of pool worker).table slot packet stands.1,
  get_or-le-sum_by (λ (m : Member). sum_by f m.table) pool.members (worker - 1) (nobody pool.limits)
      (omega (arith, stands.0.0, stands.0.1)),
)

-- the base of a segment that stands in a slot or lies on a desk is counted as a base of the pool
base_counts : (pool : Pool) (seg : Seg) (base : ℕ) → IsOfAPacket pool seg → seg.base ≡ Some base →
    0 < based_by pool.members base + based_in pool.shared.desks base
base_counts pool seg base (InASlot worker slot packet stands there) e =
    omega (
      arith,
      based_by_seg packet seg base there e,
      in_pool (λ (o : Option (List Seg)). based_slot o base) pool worker slot packet stands,
    )
base_counts pool seg base (OnADesk desk packet lies there) e =
    omega (
      arith,
      based_by_seg packet seg base there e,
      in_table (λ (o : Option (List Seg)). based_slot o base) pool.shared.desks desk packet lies,
    )

-- a segment with a base, in a slot or on a desk, has its element counted as an indirect one's
indirect_counts : (pool : Pool) (seg : Seg) (base : ℕ) → IsOfAPacket pool seg →
    seg.base ≡ Some base →
    0 < indirect_by pool.members seg.elem + indirect_in pool.shared.desks seg.elem
indirect_counts pool seg base (InASlot worker slot packet stands there) e =
    omega (
      arith,
      indirect_by_seg packet seg base there e,
      in_pool (λ (o : Option (List Seg)). indirect_slot o seg.elem) pool worker slot packet
          stands,
    )
indirect_counts pool seg base (OnADesk desk packet lies there) e =
    omega (
      arith,
      indirect_by_seg packet seg base there e,
      in_table (λ (o : Option (List Seg)). indirect_slot o seg.elem) pool.shared.desks desk
          packet lies,
    )

-- a segment whose element is another's base has none
pub direct_base : (pool : Pool) (seg other : Seg) (base : Option ℕ) → HasDirectBases pool →
    IsOfAPacket pool seg → IsOfAPacket pool other → seg.base ≡ Some other.elem → other.base ≡ base →
    base ≡ None
direct_base pool seg other None b one two e is = refl
direct_base pool seg other (Some base) b one two e is =
    absurd (omega (
      arith,
      b.direct other.elem (base_counts pool seg other.elem one e),
      indirect_counts pool other base two is,
    ))

-- were the base an indirect segment's element, it would be counted both as a base and as that
pub acts_direct_base : (l : Limits) (acts : List (ℕ × Act)) (seg other : Seg) → let pool =
    after_acts acts (new_pool l) in IsOfAPacket pool seg → IsOfAPacket pool other →
    seg.base ≡ Some other.elem → other.base ≡ None
acts_direct_base l acts seg other one two e =
    direct_base (after_acts acts (new_pool l)) seg other other.base (acts-direct l acts) one two e
    refl
