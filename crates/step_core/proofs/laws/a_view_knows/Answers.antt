use Rattle.step_core.proofs.Telling.{front_then_rest, lost_is_later_law, chain_is_of_hand}
use Rattle.step_core.proofs.laws.a_view_knows.Goals as goal

pub returns : goal.returns
returns c = record { front = front_then_rest; lost = lost_is_later_law; chain = chain_is_of_hand }
