use Rattle.std.proofs.Common.{take}
use Rattle.commons.specs.Bag.{bag}
use Rattle.snapshot.specs.inside.Marks.{HasMarked}
use Rattle.snapshot.proofs.lost.marks.mark_all.Given as goal

-- the elements so far are marked
abbrev pub invariant-loop-elem : goal.invariant-loop-elem
invariant-loop-elem l = HasMarked (bag (take l.elem-index l.elems)) l.fn.met.items l.met.items
