use Rattle.tasks.proofs.Tellings.{puts_then}
use Rattle.tasks.proofs.telling.put_text_line.Goals as goal

-- the text, and the line's end
pub returns : goal.returns
returns g c = puts_then _ _ _ _ _ c.put.ensures c.put-2.ensures
