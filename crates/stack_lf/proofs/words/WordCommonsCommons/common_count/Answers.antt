use Rattle.stack_lf.proofs.Meeting.{length_did}
use Rattle.stack_lf.proofs.words.WordCommonsCommons.common_count.Goals as goal

-- what one load of the length did
pub returns : goal.returns
returns c =
    let d = length_did c.load_length-length.result c.args.self.now.seat c.load_length-length.new.seat c.load_length-length.ensures.step c.load_length-length.ensures.known in
    record {
      did = record {
        readings = d.readings;
        step = record { led = d.step.led; cause = d.step.cause; effect = d.step.effect };
      };
    }
