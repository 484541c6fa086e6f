use Rattle.std.proofs.Common.{◌≡◌, ◌-◌, ◌++◌, length, length-append, arith, refl}
use Rattle.std.proofs.Math.Seq.{drop-append_seam}
use Rattle.mempool.specs.Caches.{Stays}
use Rattle.mempool.proofs.steps.put_past.Goals as goal

-- The push of the list was refused, and the list stays behind the cache.
pub returns-in-Err-clause-calls : goal.returns-in-Err-clause-calls
returns-in-Err-clause-calls g c =
    let cache = c.args.cache.now.items in
    let list = c.args.list.now in
    let count : length (cache ++ list) - length cache ≡ length list = omega (arith, length-append cache list) in
    Stays c.in-Err.cause (rw (drop-append_seam cache list) c.in-Err.ensures.did) (rw count refl) c.append_refused.ensures.items
