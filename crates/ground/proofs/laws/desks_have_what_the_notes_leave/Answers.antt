use Rattle.ground.proofs.Lying.{notes_tell_of_desks}
use Rattle.ground.proofs.laws.desks_have_what_the_notes_leave.Goals as goal

pub returns : goal.returns
returns c = notes_tell_of_desks
