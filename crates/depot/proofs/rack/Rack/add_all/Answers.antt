use Rattle.std.proofs.Common.{refl, arith}
use Rattle.depot.proofs.Logging.{logs-on}
use Rattle.depot.proofs.Racking.{view-logs, lets-none}
use Rattle.depot.proofs.Listing.{lays-more, part-lent}
use Rattle.depot.proofs.rack.Rack.add_all.Goals as goal

-- nothing is put in yet
pub loop-done-init : goal.loop-done-init
loop-done-init c =
    let me = c.args.self.now.seat.me in (c.requires.racked, view-logs me me refl, lets-none _ me, omega arith)

-- the part that follows is lent
pub add-requires-clause-lent : goal.add-requires-clause-lent
add-requires-clause-lent c i =
    part-lent c.args.depot.now.rounds c.loop-done.done c.min.result c.args.list.now c.args.self.now.seat.me
    c.loop-done.self.seat.me c.bring_room-most.new.self.seat.me i (c.requires.lent i) c.loop-done.invariant.2
    c.bring_room-most.ensures.keeps

-- one part more is put in
pub loop-done-preserved : goal.loop-done-preserved
loop-done-preserved c =
    let before = c.loop-done.invariant in
    let least = c.min.ensures in
    let done = before.3 in (
      c.add.ensures.racked,
      logs-on _ _ _ before.1 (logs-on _ _ _ c.bring_room-most.ensures.logs c.add.ensures.logs),
      lays-more _ c.loop-done.done c.min.result c.args.list.now c.args.self.now.seat.me c.loop-done.self.seat.me
          c.bring_room-most.new.self.seat.me c.add.new.self.seat.me before.2 c.bring_room-most.ensures.keeps c.add.ensures.lets,
      omega arith,
    )
