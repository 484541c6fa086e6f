use Rattle.std.proofs.Common.{◌≡◌, ◌∙◌, ℕ, ◌+◌, ◌-◌, sym, ap, subst, arith}
use Rattle.atomic_table.specs.Table.{turned}
use Rattle.depot.specs.Rule.{Sat}
use Rattle.depot.proofs.Logging.{logs-on}
use Rattle.depot.proofs.Racking.{view-logs, keeps-same, keeps-on}
use Rattle.depot.proofs.Turns.{Walk, walk-on}
use Rattle.depot.proofs.rack.Rack.load.Goals as goal

-- one more was passed
pub loop-preserved : goal.loop-preserved
loop-preserved c =
    let before = c.loop.invariant in
    let some = c.len-n.ensures in
    let turn = c.turn.ensures in
    let g = c.args.depot.now.rounds in
    let n = c.len-n.result in
    let rows : c.turn.new.self.seat.me.1 ≡ turned c.loop.self.seat.me.1 = turn.rows ∙ ap (λ (m : Sat). turned m.1) some.me in
    let walk : Walk g c.count-count.result (c.loop.counter + 1) (c.loop.stock + n) (c.loop.room + (g - n)) c.turn.new.self.seat.me.1 =
    walk-on g _ _ _ _ n c.loop.self.seat.me.1 _ before.3 c.loop-test.true some.len rows in
    let most = some.most in
    let few = some.racked.small.most in
    let same = some.racked.rounds in
    let stock = before.4 in
    let room = before.5 in (
      turn.racked,
      logs-on _ _ _ before.1
          (logs-on _ _ _ (view-logs c.loop.self.seat.me c.len-n.new.self.seat.me (ap (λ (m : Sat). m.0) some.me)) turn.logs),
      keeps-on g _ _ _ before.2
          (keeps-on g _ _ _ (keeps-same g c.loop.self.seat.me c.len-n.new.self.seat.me some.me) turn.keeps),
      subst (λ (k : ℕ). Walk g c.count-count.result (c.loop.counter + 1) (c.loop.stock + n) (c.loop.room + (k - n))
          c.turn.new.self.seat.me.1) (sym same) walk,
      omega arith,
      omega arith,
    )
