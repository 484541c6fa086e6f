use Rattle.std.proofs.Common.{◌≡◌, length, sum_by, take}
use Rattle.snapshot.proofs.placing.in_caches.Given as goal

-- the number of the elements so far
abbrev pub invariant-loop-share : goal.invariant-loop-share
invariant-loop-share l = l.count ≡ sum_by (λ share. length share.cache) (take l.share-index l.shares)
