use Rattle.std.proofs.Common.{◌≡◌, ◌++◌, drop}
use Rattle.pool_model.specs.Statements.{desks_from}
use Rattle.snapshot.proofs.placing.desks.Given as goal

-- the packets so far, with those of the desks that follow, are all
abbrev pub invariant-loop-desk : goal.invariant-loop-desk
invariant-loop-desk l = l.placed.items ++ desks_from l.desk (drop l.desk l.desks) ≡ desks_from 0 l.desks
