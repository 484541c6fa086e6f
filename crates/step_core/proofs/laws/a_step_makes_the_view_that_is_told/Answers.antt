use Rattle.step_core.proofs.Theorem.{makes_its_view}
use Rattle.step_core.proofs.laws.a_step_makes_the_view_that_is_told.Goals as goal

pub returns : goal.returns
returns c = makes_its_view
