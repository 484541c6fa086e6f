use Rattle.std.proofs.Common.{◌≡◌, ◌++◌, take}
use Rattle.audit_text.specs.Places.{slotted}
use Rattle.audit_text.proofs.finding.in_slots.Given as goal

-- the places in the shares so far
abbrev pub invariant-loop-share : goal.invariant-loop-share
invariant-loop-share l =
    l.out.items ≡ l.fn.out.items ++ slotted l.bases l.elem (take l.share-index l.shares)
