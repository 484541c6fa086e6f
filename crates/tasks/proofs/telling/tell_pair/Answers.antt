use Rattle.tasks.proofs.Tellings.{told_of}
use Rattle.tasks.proofs.telling.tell_pair.Goals as goal

-- the line, unless the errors failed
pub returns : goal.returns
returns g c = told_of _ _ _ _ c.put_pair.ensures c.told.ensures
