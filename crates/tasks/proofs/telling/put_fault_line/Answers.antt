use Rattle.tasks.proofs.Tellings.{puts_then}
use Rattle.tasks.proofs.telling.put_fault_line.Goals as goal

-- what is said of the refusal, and the line's end
pub returns : goal.returns
returns g c = puts_then _ _ _ _ _ c.put_fault.ensures c.put.ensures
