use Rattle.std.proofs.Common.{take}
use Rattle.commons.specs.Bag.{bag}
use Rattle.snapshot.specs.inside.Gathered.{HasGathered}
use Rattle.snapshot.proofs.elements.in_list.Given as goal

-- of the elements so far
abbrev pub invariant-loop-elem : goal.invariant-loop-elem
invariant-loop-elem l = HasGathered l.population (bag (take l.elem-index l.elems)) l.fn.named.items l.named.items
