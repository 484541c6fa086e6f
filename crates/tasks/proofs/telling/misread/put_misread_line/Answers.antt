use Rattle.tasks.proofs.Tellings.{puts_then}
use Rattle.tasks.proofs.telling.misread.put_misread_line.Goals as goal

-- what is said, and the line's end
pub returns : goal.returns
returns g c = puts_then _ _ _ _ _ c.put_misread.ensures c.put.ensures
