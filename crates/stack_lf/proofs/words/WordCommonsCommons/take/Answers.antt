use Rattle.stack_lf.proofs.Desks.{take_did}
use Rattle.stack_lf.proofs.words.WordCommonsCommons.take.Goals as goal

-- what the take leaves
pub returns : goal.returns
returns c =
    let d = take_did c.args.desk c.take-answer.result c.args.self.now.seat c.take-answer.new.seat
    c.take-answer.ensures in
    record {
      did = record {
        readings = d.readings;
        step = record { led = d.step.led; cause = d.step.cause; effect = d.step.effect };
      };
    }
