use Rattle.std.proofs.Common.{◌≡◌, ◌<◌, ◌∙◌, sym, ap, subst, arith}
use Rattle.atomic_table.specs.Table.{turned}
use Rattle.depot.specs.Racks.{Rows}
use Rattle.depot.specs.Rule.{Sat}
use Rattle.depot.proofs.Turns.{fulls, fulls-turned}
use Rattle.depot.proofs.rack.Rack.bring_room.Goals as goal

-- one less stands before it
pub loop-n-smaller : goal.loop-n-smaller
loop-n-smaller c =
    let before = c.loop-n.invariant in
    let none = c.loop-n-test.true in
    let whole = before.3 in
    let g = c.args.depot.now.rounds in
    let rows : c.len-in-loop-n.new.self.seat.me.1 ≡ turned c.loop-n.self.seat.me.1 =
    ap (λ (m : Sat). m.1) c.len-in-loop-n.ensures.me ∙ c.turn.ensures.rows in
    subst (λ (ms : Rows). fulls g ms < fulls g c.loop-n.self.seat.me.1) (sym rows)
    (fulls-turned g c.loop-n.self.seat.me.1 (omega arith) before.4)
