use Rattle.std.proofs.Common.{arith}
use Rattle.depot.proofs.Calls.{at_table, link_within, slots_are}
use Rattle.depot.proofs.Stepping.{link_loads}
use Rattle.depot.proofs.depot.Depot.load_link.Goals as goal

-- the load keeps the rule
pub load-requires : goal.load-requires
load-requires c =
    let same = slots_are c.self.invariant c.self.view_is in
    let inside = c.requires.inside in (
      at_table c.self.invariant c.self.view_is c.requires.of,
      link_within c.self.invariant c.self.view_is c.args.magazine c.requires.inside,
      link_loads _ _ _ _ c.args.magazine (omega arith) (λ l is. let e = c.requires.top l is in omega arith),
    )
