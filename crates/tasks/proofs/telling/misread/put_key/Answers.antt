use Rattle.tasks.proofs.Tellings.{puts_then}
use Rattle.tasks.proofs.telling.misread.put_key.Goals as goal

-- the text in front, and the key
pub returns : goal.returns
returns g c =
    let key = rw c.name.ensures at c.put_str.ensures in
    puts_then _ _ _ _ _ c.put.ensures key
