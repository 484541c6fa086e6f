-- A packet that stands in a slot is the worker's, so that its holds can go with it.
use Rattle.std.proofs.Common.{refl, sym, ap, arith}
use Rattle.ground.specs.Seats.{Seated}
use Rattle.mbuf.specs.Own.{no_guests}
use Rattle.mbuf.specs.Parcels.{HasPacket}
use Rattle.mbuf.proofs.ParcelLemmas.{standing_had}
use Rattle.stack_lf.specs.Sides.{side_of}
use Rattle.word_pool.proofs.Parcels.{always_taken, is_parcel, sent, sent_idle, sent_same}
use Rattle.word_pool.proofs.worker.WordWorker.send_seat.Goals as goal
use Rattle.word_pool.proofs.worker.WordWorker.send_seat.Goals.{In-Some}

-- the worker has all that the packet holds
had : (c : In-Some) → HasPacket c.in-Some.packet.now (side_of c.self.inside.seat)
had c =
    let w = c.self.inside in
    standing_had no_guests w.packets (side_of w.seat) c.args.slot c.in-Some.packet.now c.self.invariant.idle.own
    c.in-Some.ensures

-- its seat is one of the ground, at rest, and holds what the packet holds
pub lend_packet-seat-requires-clause-of : goal.lend_packet-seat-requires-clause-of
lend_packet-seat-requires-clause-of c = rw (sym c.self.view_is) at c.requires.of

pub lend_packet-seat-requires-clause-rest : goal.lend_packet-seat-requires-clause-rest
lend_packet-seat-requires-clause-rest c = c.self.invariant.idle.rest

pub lend_packet-seat-requires-clause-held : goal.lend_packet-seat-requires-clause-held
lend_packet-seat-requires-clause-held c = (had (goal.at.lend_packet-seat-requires-clause-held c).In-Some).held

-- the packet's own elements are headers of it, and no header is one twice
pub lend_packet-seat-requires-clause-owned : goal.lend_packet-seat-requires-clause-owned
lend_packet-seat-requires-clause-owned c =
    let has = had (goal.at.lend_packet-seat-requires-clause-owned c).In-Some in
    (has.distinct c.owned.ensures.header_once, has.headed)

-- a part of 1 is left for it
pub lend_packet-seat-requires-clause-part : goal.lend_packet-seat-requires-clause-part
lend_packet-seat-requires-clause-part c = omega (arith, c.self.invariant.part)

-- the packet is taken out, since it stands there
pub unreachable-requires : goal.unreachable-requires
unreachable-requires c =
    let w = c.self.inside in
    always_taken w.packets c.take_out.new.self c.args.slot c.in-Some.packet.now c.in-Err.field-0 c.in-Some.ensures c.in-Err.ensures

-- the worker is between its acts, with a part of 1 less
pub invariant_of-self : goal.invariant_of-self
invariant_of-self c =
    let w = c.self.inside in
    let left = c.lend_packet-seat.ensures.old in
    record {
      idle =
          sent_idle c.in-Some.packet.now c.args.slot w.seat c.lend_packet-seat.new.seat w.packets c.take_out.new.self
          c.self.invariant.idle c.in-Some.ensures c.in-Ok.ensures left;
      part = omega (arith, c.self.invariant.part, ap (λ (s : Seated). s.known.view.part) left);
    }

-- the packet went from its slot into the parcel
pub returns-clause-sent : goal.returns-clause-sent
returns-clause-sent c =
    let w = c.self.inside in
    rw (sym c.self.view_is)
    (sent c.args.ground.now c.args.slot w.seat c.lend_packet-seat.new.seat c.lend_packet-seat.result w.packets
    c.take_out.new.self c.in-Some.packet.now (rw (sym c.self.view_is) at c.requires.of) c.lend_packet-seat.ensures.of
    c.in-Some.ensures c.in-Ok.ensures c.lend_packet-seat.ensures.old c.lend_packet-seat.ensures.known
    c.lend_packet-seat.ensures.slots)
