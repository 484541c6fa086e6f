use Rattle.ground_tests.proofs.Seeing.{seized_phase}
use Rattle.ground_tests.proofs.desks.take_out.Goals as goal

-- the desk was seized, and its packet is in the slot
pub take_out-packet-requires-clause-phase : goal.take_out-packet-requires-clause-phase
take_out-packet-requires-clause-phase c =
    seized_phase c.args.sees.now c.args.desk c.args.view.now c.args.slot.now c.args.seat.now
    c.requires.same c.requires.seized
