use Rattle.std.proofs.Common.{◌≡◌, ◌++◌, take}
use Rattle.audit_text.specs.Places.{cached}
use Rattle.audit_text.proofs.lists.in_caches.Given as goal

-- the places in the caches so far
abbrev pub invariant-loop-share : goal.invariant-loop-share
invariant-loop-share l = l.out.items ≡ l.fn.out.items ++ cached l.elem (take l.share-index l.shares)
