use Rattle.std.proofs.Common.{refl}
use Rattle.stack_lf.proofs.Meeting.{length_did}
use Rattle.stack_lf.proofs.lent.LentWordsCommons.common_count.Goals as goal

-- what one load of the length did
pub returns : goal.returns
returns c =
    let d = length_did c.load_length-length.result c.args.self.now.seat.now c.load_length-length.new.seat c.load_length-length.ensures.step c.load_length-length.ensures.known in
    record {
      did = record {
        readings = d.readings;
        step = record { led = (refl, d.step.led); cause = d.step.cause; effect = d.step.effect };
      };
    }
