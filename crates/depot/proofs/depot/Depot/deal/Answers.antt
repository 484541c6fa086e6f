use Rattle.depot.proofs.Calls.{at_table, quiet_within}
use Rattle.depot.proofs.Parts.{deals}
use Rattle.depot.proofs.depot.Depot.deal.Goals as goal

-- the rule stands once the numbers are dealt
pub split_seat-requires : goal.split_seat-requires
split_seat-requires c = (
  at_table c.self.invariant c.self.view_is c.requires.of,
  quiet_within c.self.invariant c.self.view_is,
  deals _ _ _ c.requires.bare c.requires.some,
)
