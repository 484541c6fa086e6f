use Rattle.ground.proofs.Held.{held_is_not_given}
use Rattle.ground.proofs.laws.a_held_element_is_not_given.Goals as goal

pub returns : goal.returns
returns c = held_is_not_given
