use Rattle.step_core.proofs.Telling.{all_are_there, length_is_bounded}
use Rattle.step_core.proofs.laws.all_elements_are_there.Goals as goal

pub returns : goal.returns
returns c = record { all = all_are_there; length = length_is_bounded }
