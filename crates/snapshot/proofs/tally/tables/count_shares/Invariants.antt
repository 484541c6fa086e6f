use Rattle.std.proofs.Common.{take}
use Rattle.std.specs.Prelude.{sum_by}
use Rattle.commons.specs.Packets.{held_in, own_in}
use Rattle.pool_model.specs.Guests.{local_table}
use Rattle.snapshot.specs.inside.Tallies.{HasMet}
use Rattle.snapshot.proofs.tally.tables.count_shares.Given as goal

-- the packets of the shares so far were met
abbrev pub invariant-loop-share : goal.invariant-loop-share
invariant-loop-share l = record {
  own : HasMet (λ e. sum_by (λ share. own_in share.slots e) (take l.share-index l.shares)) l.fn.own.items l.own.items;
  held : HasMet (λ e. sum_by (λ share. held_in (local_table l.foreign share.slots) e) (take l.share-index l.shares))
      l.fn.held.items l.held.items;
}
