-- The workers of a new pool, each of which has nothing.
use Rattle.std.proofs.Common.{ℕ, zero, suc, ◌≡◌, ◌+◌, ◌<◌, [], length, get_or, replicate, None, refl, ap, arith}
use Rattle.commons.specs.declared.limits.Limits.{Limits}
use Rattle.mbuf.specs.Members.{Member, slots}
use Rattle.pool_model.specs.Pool.{new_members}

-- a worker that is new
abbrev pub newcomer : Limits → ℕ → Member
newcomer l number = record { limits = l; number = number; cache = []; table = replicate slots None }

-- there are as many new members as are asked for
pub length-new_members : (l : Limits) (number n : ℕ) → length (new_members l number n) ≡ n
length-new_members l number zero = refl
length-new_members l number (suc n) = ap suc (length-new_members l (number + 1) n)

-- new members are numbered in a row, from the first number on
pub get_or-new_members : (l : Limits) (number n k : ℕ) (d : Member) → k < n →
    get_or (new_members l number n) k d ≡ newcomer l (number + k)
get_or-new_members l number zero k d h = absurd (omega arith)
get_or-new_members l number (suc n) zero d h = let e : number + 0 ≡ number = omega arith in rw e refl
get_or-new_members l number (suc n) (suc k) d h =
    let e : number + suc k ≡ number + 1 + k = omega arith in
    rw e (get_or-new_members l (number + 1) n k d (omega arith))
