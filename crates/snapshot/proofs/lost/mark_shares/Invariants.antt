use Rattle.std.proofs.Common.{◌+◌, take}
use Rattle.std.specs.Prelude.{sum_by}
use Rattle.commons.specs.Bag.{bag}
use Rattle.commons.specs.Packets.{held_in}
use Rattle.pool_model.specs.Guests.{local_table}
use Rattle.snapshot.specs.inside.Marks.{HasMarked}
use Rattle.snapshot.proofs.lost.mark_shares.Given as goal

-- what the shares so far have is marked
abbrev pub invariant-loop-share : goal.invariant-loop-share
invariant-loop-share l =
    HasMarked (λ e. sum_by (λ share. bag share.cache e + held_in (local_table l.foreign share.slots) e)
    (take l.share-index l.shares)) l.fn.met.items l.met.items
