use Rattle.std.proofs.Common.{take}
use Rattle.commons.specs.Bag.{bag}
use Rattle.snapshot.specs.inside.Tallies.{HasMet}
use Rattle.snapshot.proofs.tally.rows.count_all.Given as goal

-- the elements so far were met
abbrev pub invariant-loop-elem : goal.invariant-loop-elem
invariant-loop-elem l = HasMet (bag (take l.elem-index l.elems)) l.fn.row.items l.row.items
