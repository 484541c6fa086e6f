use Rattle.std.proofs.Common.{refl}
use Rattle.stack_lf.proofs.Desks.{take_did}
use Rattle.stack_lf.proofs.lent.LentWordsCommons.take.Goals as goal

-- what the take leaves
pub returns : goal.returns
returns c =
    let d = take_did c.args.desk c.take-answer.result c.args.self.now.seat.now c.take-answer.new.seat
    c.take-answer.ensures in
    record {
      did = record {
        readings = d.readings;
        step = record { led = (refl, d.step.led); cause = d.step.cause; effect = d.step.effect };
      };
    }
