use Rattle.tasks.proofs.Tellings.{puts_then}
use Rattle.tasks.proofs.telling.put_code.Goals as goal

-- the number behind the word
pub returns : goal.returns
returns g c = puts_then _ _ _ _ _ c.put.ensures c.put_digits.ensures
