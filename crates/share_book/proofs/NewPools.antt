-- A new pool: each of its workers owns its part of the lists.
use Rattle.std.proofs.Common.{ℕ, ◌≡◌, ◌+◌, ◌-◌, ◌<◌, ◌≤◌, List, [], ◌∷◌, ◌++◌, add-one, get_or, refl, arith, append_assoc}
use Rattle.commons.specs.Bounds.{IsPool}
use Rattle.commons.specs.declared.limits.Limits.{Limits}
use Rattle.commons.specs.declared.refusal.Refusal.{Refusal}
use Rattle.commons.specs.declared.refusal.Refusal.TheVariants.{BadPool, OutOfMemory}
use Rattle.commons.specs.Lists.{opening, side_of}
use Rattle.commons.proofs.Opening.{nothing_held, nothing_in_hand}
use Rattle.mbuf.proofs.OwnLemmas.{own_new}
use Rattle.mempool.specs.WorkerCache.{IsWorkerCause}
use Rattle.mbuf.specs.Members.{Member}
use Rattle.pool_model.specs.Pool.{new_members, nobody}
use Rattle.share_book.specs.inside.SitePool.{IsMember}
use Rattle.pool_model.proofs.NewMembers.{newcomer, get_or-new_members}

-- the next worker is the first of those that are left
next_member : (l : Limits) (number left : ℕ) →
    new_members l number (left + 1) ≡ newcomer l number ∷ new_members l (number + 1) left
next_member l number left = rw add-one refl

-- the worker made next is the first of those that were left, so all together are the new members
pub one_member_more : (l : Limits) (members : List Member) (number workers : ℕ) → number ≤ workers →
    members ++ new_members l number (workers + 1 - number) ≡ new_members l 1 workers →
    (members ++ newcomer l number ∷ []) ++ new_members l (number + 1) (workers + 1 - (number + 1))
    ≡ new_members l 1 workers
one_member_more l members number workers b h =
    let left : workers + 1 - number ≡ workers + 1 - (number + 1) + 1 = omega arith in
    let k = rw (left, next_member l number (workers + 1 - (number + 1))) at h in
    rw append_assoc k

-- why a worker of the pool isn't made
pub only_memory : (l : Limits) (number : ℕ) (e : Refusal) → IsPool l → 1 ≤ number →
    number ≤ l.workers → IsWorkerCause l number e → e ≡ OutOfMemory
only_memory l number BadPool p first last h = absurd (h p first last)
only_memory l number OutOfMemory p first last h = refl
only_memory l number _ p first last h = absurd h

-- each worker of a new pool owns its part of the lists
pub new_member_owns : (l : Limits) (n : ℕ) → n < l.workers →
    IsMember (opening l) n (get_or (new_members l 1 l.workers) n (nobody l))
new_member_owns l n b =
    let e : 1 + n ≡ n + 1 = omega arith in
    rw (get_or-new_members l 1 l.workers n (nobody l) b, e)
    (record {
      number = refl;
      own = record {
        first = omega arith;
        last = omega arith;
        share =
            own_new (side_of (opening l) (n + 1)) (n + 1) (nothing_in_hand l.population (n + 1))
            (nothing_held l.workers l.population (n + 1 - 1));
      };
    })
