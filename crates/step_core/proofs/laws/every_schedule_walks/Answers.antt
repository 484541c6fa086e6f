use Rattle.step_core.proofs.Walking.{every_schedule_walks}
use Rattle.step_core.proofs.laws.every_schedule_walks.Goals as goal

pub returns : goal.returns
returns c = every_schedule_walks
