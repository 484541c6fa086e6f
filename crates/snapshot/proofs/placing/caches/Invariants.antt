use Rattle.std.proofs.Common.{◌≡◌, map, take}
use Rattle.snapshot.proofs.placing.caches.Given as goal

-- the caches of the shares so far
abbrev pub invariant-loop-share : goal.invariant-loop-share
invariant-loop-share l = l.caches.items ≡ map (λ share. share.cache) (take l.share-index l.shares)
