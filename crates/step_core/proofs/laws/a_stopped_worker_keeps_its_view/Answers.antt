use Rattle.step_core.proofs.Telling.{stopped_keeps_its_view}
use Rattle.step_core.proofs.laws.a_stopped_worker_keeps_its_view.Goals as goal

pub returns : goal.returns
returns c = stopped_keeps_its_view
