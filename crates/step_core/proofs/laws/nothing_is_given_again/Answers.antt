use Rattle.step_core.proofs.Telling.{not_given_again}
use Rattle.step_core.proofs.laws.nothing_is_given_again.Goals as goal

pub returns : goal.returns
returns c = not_given_again
