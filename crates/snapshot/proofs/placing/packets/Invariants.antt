use Rattle.std.proofs.Common.{◌≡◌, flat_map, take}
use Rattle.pool_model.specs.Statements.{packets_from}
use Rattle.snapshot.proofs.placing.packets.Given as goal

-- the packets of the shares so far
abbrev pub invariant-loop-share : goal.invariant-loop-share
invariant-loop-share l =
    l.placed.items
    ≡ flat_map (λ share. packets_from share.worker 0 share.slots) (take l.share-index l.shares)
