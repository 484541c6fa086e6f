use Rattle.step_core.proofs.Theorem.{keeps_law}
use Rattle.step_core.proofs.laws.a_step_keeps_the_law.Goals as goal

pub returns : goal.returns
returns c = keeps_law
