use Rattle.tasks.proofs.Tellings.{puts_then}
use Rattle.tasks.proofs.telling.misread.put_path.Goals as goal

-- what parts the path from the words, and the path
pub returns : goal.returns
returns g c = puts_then _ _ _ _ _ c.put.ensures c.put_steps.ensures
