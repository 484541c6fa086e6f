use Rattle.word_tests.proofs.Carrying.{carries_none}
use Rattle.word_tests.proofs.stack.carrying.offer.Goals as goal

-- the packet that was left on the desk is carried no more
pub returns-in-Ok-clause-carries : goal.returns-in-Ok-clause-carries
returns-in-Ok-clause-carries c =
    carries_none c.take.new.self c.offer.new.self.seat c.take.ensures.after
