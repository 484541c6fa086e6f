use Rattle.step_core.proofs.Theorem.{makes_its_event}
use Rattle.step_core.proofs.laws.a_step_is_its_event.Goals as goal

pub returns : goal.returns
returns c = makes_its_event
