use Rattle.stack_lf.proofs.Desks.{may_open}
use Rattle.stack_lf.proofs.desking.offer.Goals as goal

-- the packet is in, the seat has its holds, and its own elements are distinct headers of the seat
pub open-requires-clause-may : goal.open-requires-clause-may
open-requires-clause-may c =
    may_open c.args.desk c.args.packet c.args.seat.now c.hold.new.seat c.put_in.new.seat
    c.owned.ensures c.requires.held c.requires.own c.in-Ok.ensures.won c.put_in.ensures
