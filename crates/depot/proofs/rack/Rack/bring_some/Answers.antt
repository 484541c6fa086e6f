use Rattle.std.proofs.Common.{◌≡◌, ◌<◌, ◌∙◌, sym, ap, subst}
use Rattle.atomic_table.specs.Table.{turned}
use Rattle.depot.specs.Racks.{Rows}
use Rattle.depot.specs.Rule.{Sat}
use Rattle.depot.proofs.Turns.{empties, empties-turned}
use Rattle.depot.proofs.rack.Rack.bring_some.Goals as goal

-- one less stands before it
pub loop-n-smaller : goal.loop-n-smaller
loop-n-smaller c =
    let before = c.loop-n.invariant in
    let rows : c.len-n-in-loop-n.new.self.seat.me.1 ≡ turned c.loop-n.self.seat.me.1 =
    ap (λ (m : Sat). m.1) c.len-n-in-loop-n.ensures.me ∙ c.turn.ensures.rows in
    subst (λ (ms : Rows). empties ms < empties c.loop-n.self.seat.me.1) (sym rows)
    (empties-turned c.loop-n.self.seat.me.1 (sym before.3 ∙ c.loop-n-test.true) before.4)
