use Rattle.step_core.proofs.Telling.{held_is_left}
use Rattle.step_core.proofs.laws.what_is_held_is_left.Goals as goal

pub returns : goal.returns
returns c = held_is_left
