use Rattle.std.proofs.Common.{arith}
use Rattle.depot.proofs.Calls.{at_table, head_within, few_slots}
use Rattle.depot.proofs.Exchanges.{top_takes_at}
use Rattle.depot.proofs.depot.Depot.take_top.Goals as goal

-- the next head fits its word
pub overflow_add-new-2 : goal.overflow_add-new-2
overflow_add-new-2 c =
    let few = few_slots c.self.invariant c.self.view_is in
    let link = c.requires.link in
    let count = c.requires.count in
    let is = c.count_of.ensures in
    omega arith

-- the exchange keeps the rule
pub compare_exchange-found-requires : goal.compare_exchange-found-requires
compare_exchange-found-requires c =
    let few = few_slots c.self.invariant c.self.view_is in
    let link = c.requires.link in
    let is = c.count_of.ensures in (
      at_table c.self.invariant c.self.view_is c.requires.of,
      head_within c.self.invariant c.self.view_is c.args.stack _ c.head_at.ensures,
      top_takes_at _ _ _ _ c.args.stack c.args.head c.args.link _ _ _ c.requires.of.rounds c.requires.look c.requires.top (omega arith)
          c.head_at.ensures (omega arith),
    )
