use Rattle.std.proofs.Common.{◌≡◌, ◌-◌, ◌++◌, ℕ, List, length, take, arith, refl}
use Rattle.std.proofs.Math.Seq.{take-append_seam}
use Rattle.mempool.specs.Caches.{Stays}
use Rattle.mempool.proofs.steps.flush_first.Goals as goal

-- what a slice up to the first part's length is
front : (first list xs ys : List ℕ) (k : ℕ) → ys ≡ xs → xs ≡ first ++ list → length first ≡ k → take k ys ≡ first
front first list xs ys k v e n = rw v (rw e (rw (← n) (take-append_seam first list)))

-- The push was refused, and the cache keeps all.
pub returns-in-Err-clause-calls : goal.returns-in-Err-clause-calls
returns-in-Err-clause-calls g c first list e n =
    let f = front first list c.args.cache.now.items c.deref.result.now c.args.count c.deref.ensures.value e n in
    let m : length first - 0 ≡ c.args.count = omega (arith, n) in
    (first, Stays c.in-Err.cause (rw f at c.in-Err.ensures.did) (rw m refl) refl, e)
