use Rattle.depot.proofs.Calls.{at_table, place_within, placed}
use Rattle.depot.proofs.Claims.{get-looks}
use Rattle.depot.proofs.depot.Depot.look_to_get.Goals as goal

-- the load keeps the rule
pub load-requires : goal.load-requires
load-requires c = (
  at_table c.self.invariant c.self.view_is c.requires.of,
  place_within c.self.invariant c.self.view_is c.args.element c.requires.inside _ c.place_at-at.ensures,
  get-looks _ _ _ _ c.args.element _ (placed c.self.invariant c.self.view_is _ _ c.place_at-at.ensures),
)
