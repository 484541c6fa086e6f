use Rattle.tasks.proofs.Tellings.{told_of}
use Rattle.tasks.proofs.telling.tell.Goals as goal

-- the line, unless the errors failed
pub returns : goal.returns
returns g c = told_of _ _ _ _ c.put_line.ensures c.told.ensures
