use Rattle.ground.proofs.History.{histories_are_events}
use Rattle.ground.proofs.laws.a_history_is_its_events.Goals as goal

pub returns : goal.returns
returns c = histories_are_events
