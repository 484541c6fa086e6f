use Rattle.std.proofs.Common.{None, refl}
use Rattle.word_tests.proofs.Carrying.{carries_none}
use Rattle.word_tests.proofs.stack.carrying.nothing.Goals as goal

-- nothing needs no hold
pub returns : goal.returns
returns c = carries_none None c.args.c.now.seat refl
