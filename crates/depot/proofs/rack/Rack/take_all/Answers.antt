use Rattle.std.proofs.Common.{◌≡◌, ◌∙◌, length, refl, arith}
use Rattle.depot.proofs.Logging.{logs-on}
use Rattle.depot.proofs.Racking.{view-logs, lets-none}
use Rattle.depot.proofs.Listing.{part-length, lets-more}
use borrow.Rule.Slice.PartMut.{same_len_mid}
use Rattle.depot.proofs.rack.Rack.take_all.Goals as goal

-- nothing is taken out yet
pub loop-done-init : goal.loop-done-init
loop-done-init c =
    let me = c.args.self.now.seat.me in (c.requires.racked, view-logs me me refl, lets-none _ me, omega arith, refl)

-- one part more is
pub loop-done-preserved : goal.loop-done-preserved
loop-done-preserved c =
    let before = c.loop-done.invariant in
    let least = c.min.ensures in
    let done = before.3 in
    let size = before.4 in
    let part = part-length c.loop-done.done c.min.result c.loop-done.out (omega arith) in
    let len = c.take.auto.out in
    let ys : length c.take.new.out ≡ c.min.result = len ∙ part in (
      c.take.ensures.racked,
      logs-on _ _ _ before.1 (logs-on _ _ _ c.bring_some-most.ensures.logs c.take.ensures.logs),
      lets-more _ c.loop-done.done _ c.min.result c.loop-done.out c.take.new.out c.args.self.now.seat.me c.loop-done.self.seat.me
          c.bring_some-most.new.self.seat.me c.take.new.self.seat.me (omega arith) ys before.2
          c.bring_some-most.ensures.keeps c.take.ensures.lets,
      omega arith,
      same_len_mid c.loop-done.done _ c.loop-done.out c.take.new.out len ∙ size,
    )
