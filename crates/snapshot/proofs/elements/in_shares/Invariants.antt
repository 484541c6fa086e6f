use Rattle.std.proofs.Common.{◌+◌, take}
use Rattle.std.specs.Prelude.{sum_by}
use Rattle.commons.specs.Bag.{bag}
use Rattle.commons.specs.Packets.{held_in}
use Rattle.pool_model.specs.Guests.{local_table}
use Rattle.snapshot.specs.inside.Gathered.{HasGathered}
use Rattle.snapshot.proofs.elements.in_shares.Given as goal

-- of the shares so far
abbrev pub invariant-loop-share : goal.invariant-loop-share
invariant-loop-share l =
    HasGathered l.population (λ e. sum_by (λ share. bag share.cache e + held_in (local_table l.foreign share.slots) e)
    (take l.share-index l.shares)) l.fn.named.items l.named.items
