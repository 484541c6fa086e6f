use Rattle.std.proofs.Common.{refl}
use Rattle.stack_lf.proofs.Meeting.{lower_did}
use Rattle.stack_lf.proofs.lent.LentWordsCommons.lower.Goals as goal

-- what the lower leaves
pub returns : goal.returns
returns c =
    let d = lower_did c.args.element c.lower-answer.result c.args.self.now.seat.now c.lower-answer.new.seat c.requires
    c.lower-answer.ensures.lowered c.lower-answer.ensures.told in
    record {
      did = record {
        readings = d.readings;
        step = record { led = (refl, d.step.led); cause = d.step.cause; effect = d.step.effect };
      };
    }
