use Rattle.depot.proofs.Calls.{at_table, place_within, among, placed}
use Rattle.depot.proofs.Looks.{ins}
use Rattle.depot.proofs.depot.Depot.rest_in.Goals as goal

-- the store keeps the rule
pub store-requires : goal.store-requires
store-requires c = (
  at_table c.self.invariant c.self.view_is c.requires.of,
  place_within c.self.invariant c.self.view_is c.args.element c.requires.inside _ c.place_at-at.ensures,
  ins _ _ _ _ c.args.element _ _ (among c.self.invariant c.self.view_is _ c.requires.inside)
      c.requires.number c.requires.hand (placed c.self.invariant c.self.view_is _ _ c.place_at-at.ensures),
)
