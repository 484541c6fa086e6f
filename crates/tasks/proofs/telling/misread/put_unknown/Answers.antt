use Rattle.tasks.proofs.Tellings.{puts_then}
use Rattle.tasks.proofs.telling.misread.put_unknown.Goals as goal

-- the words, and the key
pub returns : goal.returns
returns g c = puts_then _ _ _ _ _ c.put.ensures c.put_str.ensures
