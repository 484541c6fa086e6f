-- The reference model of holds that end, with no counts: an element goes back where nothing holds
-- it any more.
use Rattle.std.specs.Prelude.{ℕ, ◌+◌, ◌==◌, if◌then◌else◌, List, [], ◌∷◌}
use Rattle.commons.specs.Bag.{bag}
use Rattle.commons.specs.declared.limits.Limits.{Limits}
use Rattle.mempool.specs.declared.put.Put.{Put}
use Rattle.mbuf.specs.declared.freed.Freed.{Freed}
use Rattle.mbuf.specs.PacketRules.{counted}
use Rattle.pool_model.specs.Pool.{Shared}
use Rattle.pool_model.specs.CacheModel.{put}

-- what freeing has done once one element more was put back
abbrev pub put_back : Freed → Put × List ℕ × Shared → Freed × List ℕ × Shared
put_back freed (answer, cache, s) = (counted freed answer, cache, s)

-- The holds end in order. After each, the element goes back into the cache where nothing holds it
-- any more: none of the holds that are still to end, and no other packet.
abbrev pub end_holds : Limits → (ℕ → ℕ) → List ℕ → Freed × List ℕ × Shared → Freed × List ℕ × Shared
end_holds l others [] so_far = so_far
end_holds l others (e ∷ es) so_far =
    end_holds l others es (if bag es e + others e == 0 then put_back so_far.0 (put l (e ∷ []) so_far.1 so_far.2) else so_far)
