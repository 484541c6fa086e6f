use Rattle.std.proofs.Common.{◌∙◌, ℕ, List, sym}
use Rattle.depot.proofs.Racking.{turned_racked, turned_keeps}
use Rattle.depot.proofs.rack.Rack.turn.Goals as goal

pub returns-clause-racked : goal.returns-clause-racked
returns-clause-racked c =
    let t = c.turn.ensures in
    let push = c.push_back_reserved.ensures in
    let pop = c.in-Some.ensures in
    turned_racked _ c.args.self.now c.turn.new.self c.requires.racked t.0 t.2 _ _ (sym {A = List ℕ} push.items ∙ pop.items)
    (pop.capacity ∙ push.capacity)

pub returns-clause-keeps : goal.returns-clause-keeps
returns-clause-keeps c =
    let t = c.turn.ensures in turned_keeps _ c.args.self.now c.turn.new.self c.requires.racked t.0 t.2
