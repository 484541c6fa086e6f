use Rattle.std.proofs.Common.{replicate, take}
use Rattle.commons.specs.Bag.{bag}
use Rattle.snapshot.specs.inside.Adding.{AreAdded, lists_of}
use Rattle.snapshot.proofs.placing.add_all.Given as goal

-- the holder is noted for each of the elements so far
abbrev pub invariant-loop-elem : goal.invariant-loop-elem
invariant-loop-elem l =
    AreAdded (λ i. replicate (bag (take l.elem-index l.elems) i) l.holder) (lists_of l.fn.table.items)
    (lists_of l.table.items)
