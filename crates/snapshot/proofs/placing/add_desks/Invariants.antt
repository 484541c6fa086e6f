use Rattle.snapshot.specs.inside.Adding.{lists_of}
use Rattle.snapshot.proofs.AddedHolders.{AreNoted}
use Rattle.snapshot.proofs.placing.add_desks.Given as goal

-- the desks so far are noted
abbrev pub invariant-loop-desk : goal.invariant-loop-desk
invariant-loop-desk l = AreNoted l.foreign l.desks l.desk (lists_of l.fn.table.items) (lists_of l.table.items)
