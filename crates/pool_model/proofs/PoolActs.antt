-- What an act of one worker leaves of the others, and a refused one of the whole pool.
use Rattle.std.proofs.Common.{ℕ, ◌≡◌, ◌≢◌, ◌+◌, ◌-◌, ◌<◌, ◌≤◌, List, length, length-set, get_or, get_or-set_same, get_or-set_other, Option, None, refl, sym, ap, ◌∙◌, arith}
use Rattle.std.proofs.lemmas.List.{set-get_or}
use Rattle.commons.specs.Bag.{bag}
use Rattle.commons.specs.Packets.{held_in}
use Rattle.commons.specs.declared.limits.Limits.{Limits}
use Rattle.commons.specs.declared.packet.Seg.{Seg}
use Rattle.commons.specs.declared.refusal.Refusal.{Refusal}
use Rattle.mbuf.specs.Acts.{Reply}
use Rattle.mbuf.specs.declared.acts.Act.{Act}
use Rattle.mbuf.specs.declared.acts.Act.TheVariants.{ClonePacket, Offer, Take}
use Rattle.mbuf.specs.declared.acts.Answer.TheVariants.{Refused}
use Rattle.mbuf.specs.Members.{Member}
use Rattle.mbuf.specs.PacketRules.{free_slot}
use Rattle.mbuf.specs.Sharing.{clonable}
use Rattle.pool_model.specs.Pool.{Shared, Pool, held_of, member_at, new_pool, nobody, with_member}
use Rattle.pool_model.specs.PacketModel.{act_on, after_acts, held_elsewhere, perform}
use Rattle.pool_model.specs.Standing.{IsGivenUp, worker_of}
use Rattle.pool_model.proofs.ActLeaves.{by_others, of_act}
use Rattle.pool_model.proofs.Balance.{IsBalanced, after_acts-balanced, near_once, new_pool-balanced}
use Rattle.pool_model.proofs.Leaves.{DesksAfter, Leaves, Same, Onto, Off}
use Rattle.pool_model.proofs.Refusals.{clone_at-packets, same_if_refused}

-- an act by one worker leaves each member of another number
pub other_member : (pool : Pool) (worker n : ℕ) (act : Act) → worker ≢ n + 1 →
    member_at (perform pool worker act).1 n ≡ member_at pool n
other_member pool worker n act other =
    of_act (λ r. member_at r.1 n ≡ member_at pool n) pool worker act refl
    (λ k done number within is left.
    get_or-set_other pool.members k n done.1 (nobody pool.limits)
    (λ same. other (number ∙ ap (λ (x : ℕ). x + 1) (sym same))))

-- an act leaves as many members
pub as_many : (pool : Pool) (worker : ℕ) (act : Act) → length (perform pool worker act).1.members ≡ length pool.members
as_many pool worker act =
    of_act (λ r. length r.1.members ≡ length pool.members) pool worker act refl
    (λ k done number within is left. length-set pool.members k done.1)

-- an act writes one member and what all share, and no limit
pub same_limits : (pool : Pool) (worker : ℕ) (act : Act) → (perform pool worker act).1.limits ≡ pool.limits
same_limits pool worker act =
    of_act (λ r. r.1.limits ≡ pool.limits) pool worker act refl
    (λ k done number within is left. refl)

-- no change of the stack is taken back
pub as_many_changes : (pool : Pool) (worker : ℕ) (act : Act) →
    pool.shared.changes ≤ (perform pool worker act).1.shared.changes
as_many_changes pool worker act =
    of_act (λ r. pool.shared.changes ≤ r.1.shared.changes) pool worker act (omega arith)
    (λ k done number within is left. left.changes)

-- an act leaves each desk that it doesn't name
desk_beside : (act : Act) (before after : List (Option (List Seg))) (desk : ℕ) →
    DesksAfter act before after → ((slot : ℕ) → act ≢ Offer slot desk) → act ≢ Take desk →
    get_or after desk None ≡ get_or before desk None
desk_beside act before after desk (Same e) offered taken =
    ap (λ (desks : List (Option (List Seg))). get_or desks desk None) e
desk_beside act before after desk (Onto slot other packet is empty e) offered taken =
    rw e (get_or-set_other before other desk _ None
    (λ same. offered slot (is ∙ ap (λ (d : ℕ). Offer slot d) (sym same))))
desk_beside act before after desk (Off other is e) offered taken =
    rw e (get_or-set_other before other desk None None (λ same. taken (is ∙ ap Take (sym same))))

-- the one desk that an act may write is the one that it names
pub other_desk : (pool : Pool) (worker desk : ℕ) (act : Act) →
    ((slot : ℕ) → act ≢ Offer slot desk) → act ≢ Take desk →
    get_or (perform pool worker act).1.shared.desks desk None ≡ get_or pool.shared.desks desk None
other_desk pool worker desk act offered taken =
    of_act (λ r. get_or r.1.shared.desks desk None ≡ get_or pool.shared.desks desk None) pool worker act refl
    (λ k done number within is left. desk_beside act pool.shared.desks done.2.desks desk left.desks offered taken)

-- a pool in which a worker and what all share are as before
pub with_member-same : (pool : Pool) (n : ℕ) (m : Member) (s : Shared) → m ≡ member_at pool n →
    s ≡ pool.shared → with_member pool n m s ≡ pool
with_member-same pool n m s e f =
    rw (e, f) (ap
    (λ (members : List Member). let after : Pool = record pool { members = members } in after)
    (set-get_or pool.members n (nobody pool.limits)))

-- an act other than a clone that is refused leaves the pool as it was
pub refused_same : (pool : Pool) (worker : ℕ) (act : Act) (cause : Refusal) →
    ((source : ℕ) → act ≢ ClonePacket source) → (perform pool worker act).0 ≡ Refused cause →
    (perform pool worker act).1 ≡ pool
refused_same pool worker act cause other =
    of_act (λ r. r.0 ≡ Refused cause → r.1 ≡ pool) pool worker act (λ told. refl)
    (λ k done number within is left told.
    let kept =
    same_if_refused act (held_of pool.members pool.shared.desks) (held_elsewhere pool k)
    (member_at pool k) pool.shared other cause
    (ap (λ (d : Reply × Member × Shared). d.0) (sym is) ∙ told) in
    with_member-same pool k done.1 done.2 (ap (λ (d : Reply × Member × Shared). d.1) is ∙ kept.0)
    (ap (λ (d : Reply × Member × Shared). d.2) is ∙ kept.1))

-- a clone leaves the desks
pub clone_desks : (act : Act) (source : ℕ) (before after : List (Option (List Seg))) →
    act ≡ ClonePacket source → DesksAfter act before after → after ≡ before
clone_desks act source before after is (Same e) = e
clone_desks act source before after is (Onto slot desk packet offered empty e) = absurd cc
clone_desks act source before after is (Off desk took e) = absurd cc

-- what a clone leaves that was refused, of the worker and of what all share
abbrev LeftByClone : ℕ → Pool → Pool → Type 0
LeftByClone worker before after =
    (worker_of after worker
    ≡ record (worker_of before worker) { cache = (worker_of after worker).cache })
    × (after.shared.desks ≡ before.shared.desks)
    × ((i : ℕ) → bag (worker_of after worker).cache i + bag after.shared.common i
    ≡ bag (worker_of before worker).cache i + bag before.shared.common i)
    × (before.shared.changes ≤ after.shared.changes)

-- the clones so far are given up again, so only the cache and the free elements' order can differ
left_by_clone : (pool : Pool) (n source : ℕ) (cause : Refusal) (done : Reply × Member × Shared) →
    IsBalanced pool → n < length pool.members → done ≡ act_on pool n (ClonePacket source) →
    Leaves (ClonePacket source) (by_others pool n) (member_at pool n) pool.shared done →
    done.0 ≡ Refused cause → LeftByClone (n + 1) pool (with_member pool n done.1 done.2)
left_by_clone pool n source cause done b within is left told =
    let m : Member = member_at pool n in
    let packets : done.1 ≡ record m { cache = done.1.cache } =
    rw is (clone_at-packets (clonable (get_or m.table source None) (free_slot m.table))
    (held_of pool.members pool.shared.desks) m pool.shared cause
    (ap (λ (d : Reply × Member × Shared). d.0) (sym is) ∙ told)) in
    let desks = clone_desks (ClonePacket source) source pool.shared.desks done.2.desks refl left.desks in
    let at : n + 1 - 1 ≡ n = omega arith in
    let here = get_or-set_same pool.members n done.1 (nobody pool.limits) within in
    rw (at, here) (
      packets,
      desks,
      (λ i.
          omega (
            arith,
            left.placed i (near_once pool n i b within),
            ap (λ (x : Member). held_in x.table i) packets,
            ap (λ (x : List (Option (List Seg))). held_in x i) desks,
          )),
      left.changes,
    )

-- a clone that is refused in a balanced pool gives up what it made
pub clone_given_up : (pool : Pool) (worker source : ℕ) (cause : Refusal) → IsBalanced pool →
    (perform pool worker (ClonePacket source)).0 ≡ Refused cause →
    IsGivenUp worker pool (perform pool worker (ClonePacket source)).1
clone_given_up pool worker source cause b told =
    let kept =
    of_act (λ r. r.0 ≡ Refused cause → LeftByClone worker pool r.1) pool worker
    (ClonePacket source) (λ told. (refl, refl, (λ i. refl), omega arith))
    (λ n done number within is left told.
    rw number (left_by_clone pool n source cause done b within is left told)) told in record {
      limits = same_limits pool worker (ClonePacket source);
      workers = as_many pool worker (ClonePacket source);
      packets = kept.0;
      others = λ n other. other_member pool worker n (ClonePacket source) other;
      desks = kept.1;
      free = kept.2;
      changes = kept.3;
    }

-- a clone that is refused in a pool that acts made of a new one gives up what it made
pub acts_clone_given_up : (l : Limits) (acts : List (ℕ × Act)) (worker source : ℕ) (cause : Refusal)
    → let pool =
    after_acts acts (new_pool l) in
    (perform pool worker (ClonePacket source)).0 ≡ Refused cause →
    IsGivenUp worker pool (perform pool worker (ClonePacket source)).1
acts_clone_given_up l acts worker source cause =
    clone_given_up (after_acts acts (new_pool l)) worker source cause
    (after_acts-balanced acts (new_pool l) (new_pool-balanced l))
