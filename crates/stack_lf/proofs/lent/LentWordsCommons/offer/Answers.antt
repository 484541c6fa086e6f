use Rattle.std.proofs.Common.{refl}
use Rattle.stack_lf.proofs.Desks.{offer_did}
use Rattle.commons.specs.Calls.{without_packet}
use Rattle.stack_lf.proofs.lent.LentWordsCommons.offer.Goals as goal

-- what the offer leaves
pub returns-clause-did : goal.returns-clause-did
returns-clause-did c =
    let d = offer_did c.args.desk c.args.packet (without_packet c.offer-answer.result) c.args.self.now.seat.now
    c.offer-answer.new.seat c.requires.held c.requires.own c.offer-answer.ensures.offered in
    record {
      readings = d.readings;
      step = record { led = (refl, d.step.led); cause = d.step.cause; effect = d.step.effect };
    }
