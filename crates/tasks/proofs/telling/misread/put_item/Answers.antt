use Rattle.tasks.proofs.Tellings.{puts_then}
use Rattle.tasks.proofs.telling.misread.put_item.Goals as goal

-- the number, and the bracket
pub returns : goal.returns
returns g c = puts_then _ _ _ _ _ c.put_numbered.ensures c.put.ensures
