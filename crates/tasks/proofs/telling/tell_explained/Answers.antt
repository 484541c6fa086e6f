use Rattle.tasks.proofs.Tellings.{puts_then, told_of}
use Rattle.tasks.proofs.telling.tell_explained.Goals as goal

-- one line behind the other
pub returns : goal.returns
returns g c = told_of _ _ _ _ (puts_then _ _ _ _ _ c.put_line.ensures c.put_second.ensures) c.told.ensures
