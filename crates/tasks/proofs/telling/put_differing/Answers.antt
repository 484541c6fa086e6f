use Rattle.tasks.proofs.Tellings.{puts_then}
use Rattle.tasks.proofs.telling.put_differing.Goals as goal

-- what differs, and the line's end
pub returns : goal.returns
returns g c = puts_then _ _ _ _ _ c.put_difference.ensures c.put.ensures
