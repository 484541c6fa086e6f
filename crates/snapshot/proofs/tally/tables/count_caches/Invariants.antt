use Rattle.std.proofs.Common.{take}
use Rattle.std.specs.Prelude.{sum_by}
use Rattle.commons.specs.Bag.{bag}
use Rattle.snapshot.specs.inside.Tallies.{HasMet}
use Rattle.snapshot.proofs.tally.tables.count_caches.Given as goal

-- the caches so far were met
abbrev pub invariant-loop-share : goal.invariant-loop-share
invariant-loop-share l =
    HasMet (λ e. sum_by (λ share. bag share.cache e) (take l.share-index l.shares)) l.fn.free.items
    l.free.items
