use Rattle.depot.proofs.Calls.{at_table, quiet_within}
use Rattle.depot.proofs.Stepping.{quiet_loads}
use Rattle.depot.proofs.depot.Depot.note.Goals as goal

-- the load keeps the rule
pub load-requires : goal.load-requires
load-requires c = (
  at_table c.self.invariant c.self.view_is c.requires.of,
  quiet_within c.self.invariant c.self.view_is,
  quiet_loads _ _ _ _,
)
