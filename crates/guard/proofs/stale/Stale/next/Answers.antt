use Rattle.std.proofs.Common.{arith, sym, ◌∙◌}
use Rattle.guard.proofs.Keeping.{is-first}
use Rattle.guard.proofs.stale.Stale.next.Goals as goal

-- the oldest
pub returns : goal.returns
returns c =
    let ok = c.self.inside.items.ok.0 in let e = c.remove.ensures in
    sym c.self.view_is ∙ is-first c.remove.result c.self.inside.items.items c.remove.new.self.items (omega arith) e.value e.items
