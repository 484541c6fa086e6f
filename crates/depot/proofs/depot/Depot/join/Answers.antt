use Rattle.depot.proofs.Calls.{at_table, quiet_within}
use Rattle.depot.proofs.Parts.{joins}
use Rattle.depot.proofs.depot.Depot.join.Goals as goal

-- the rule stands once the two are one
pub join_seat-requires : goal.join_seat-requires
join_seat-requires c = (
  at_table c.self.invariant c.self.view_is c.requires.of,
  at_table c.self.invariant c.self.view_is c.requires.other_of,
  c.requires.none,
  quiet_within c.self.invariant c.self.view_is,
  joins _ _ _ _ _ c.requires.bare,
)
