use Rattle.std.proofs.Common.{refl}
use Rattle.stack_lf.proofs.Meeting.{claim_did}
use Rattle.stack_lf.proofs.lent.LentWordsCommons.claim.Goals as goal

-- what one load of a count did
pub returns : goal.returns
returns c =
    let d = claim_did c.args.element c.args.self.now.seat.now c.claim.new.seat c.requires c.claim.ensures.step in
    record {
      did = record {
        readings = d.readings;
        step = record { led = (refl, d.step.led); cause = d.step.cause; effect = d.step.effect };
      };
    }
