use Rattle.depot.proofs.Calls.{at_table, place_within, among, placed}
use Rattle.depot.proofs.Claims.{taken_back}
use Rattle.depot.proofs.depot.Depot.take_back.Goals as goal

-- the exchange keeps the rule
pub compare_exchange-found-requires : goal.compare_exchange-found-requires
compare_exchange-found-requires c = (
  at_table c.self.invariant c.self.view_is c.requires.of,
  place_within c.self.invariant c.self.view_is c.args.element c.requires.inside _ c.place_at-at.ensures,
  taken_back _ _ _ _ c.args.element _ _ (among c.self.invariant c.self.view_is _ c.requires.inside)
      c.requires.some c.requires.number c.requires.kept (placed c.self.invariant c.self.view_is _ _ c.place_at-at.ensures),
)
