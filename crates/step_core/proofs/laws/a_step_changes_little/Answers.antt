use Rattle.step_core.proofs.Theorem.{changes_little}
use Rattle.step_core.proofs.laws.a_step_changes_little.Goals as goal

pub returns : goal.returns
returns c = changes_little
