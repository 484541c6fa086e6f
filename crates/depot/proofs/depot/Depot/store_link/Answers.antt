use Rattle.std.proofs.Common.{arith}
use Rattle.depot.proofs.Calls.{at_table, link_within, slots_are}
use Rattle.depot.proofs.Stepping.{link_stores}
use Rattle.depot.proofs.depot.Depot.store_link.Goals as goal

-- the store keeps the rule
pub store-requires : goal.store-requires
store-requires c =
    let same = slots_are c.self.invariant c.self.view_is in
    let link = c.requires.link in (
      at_table c.self.invariant c.self.view_is c.requires.of,
      link_within c.self.invariant c.self.view_is c.args.magazine c.requires.inside,
      link_stores _ _ _ _ c.args.magazine _ c.requires.out (omega arith),
    )
