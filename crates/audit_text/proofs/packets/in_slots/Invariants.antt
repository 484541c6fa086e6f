use Rattle.std.proofs.Common.{◌≡◌, ◌++◌, flat_map, take}
use Rattle.audit_text.specs.Places.{others_from}
use Rattle.audit_text.specs.declared.place.Table.TheVariants.{Slots}
use Rattle.audit_text.proofs.packets.in_slots.Given as goal

-- the places in the shares so far
abbrev pub invariant-loop-share : goal.invariant-loop-share
invariant-loop-share l =
    l.out.items
    ≡ l.fn.out.items
    ++ flat_map (λ share. others_from (Slots share.worker) 0 share.slots) (take l.share-index l.shares)
