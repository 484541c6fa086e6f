use Rattle.step_core.proofs.Theorem.{opens_lawful}
use Rattle.step_core.proofs.laws.the_opening_is_lawful.Goals as goal

pub returns : goal.returns
returns c = opens_lawful
