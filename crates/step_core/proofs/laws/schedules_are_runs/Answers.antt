use Rattle.step_core.proofs.Telling.{schedules_are_runs}
use Rattle.step_core.proofs.laws.schedules_are_runs.Goals as goal

pub returns : goal.returns
returns c = schedules_are_runs
