use Rattle.tasks.proofs.Tellings.{puts_then}
use Rattle.tasks.proofs.telling.misread.put_steps.Goals as goal

-- the first step, and those behind it
pub returns : goal.returns
returns g c = puts_then _ _ _ _ _ c.put_step.ensures c.put_further.ensures
