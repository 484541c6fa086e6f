use Rattle.depot.proofs.Calls.{at_table, head_within}
use Rattle.depot.proofs.Stepping.{head_loads_at}
use Rattle.depot.proofs.depot.Depot.load_head.Goals as goal

-- the load keeps the rule
pub load-requires : goal.load-requires
load-requires c = (
  at_table c.self.invariant c.self.view_is c.requires.of,
  head_within c.self.invariant c.self.view_is c.args.stack _ c.head_at.ensures,
  head_loads_at _ _ _ _ c.args.stack _ c.head_at.ensures,
)
