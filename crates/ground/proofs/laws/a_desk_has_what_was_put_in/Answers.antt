use Rattle.ground.proofs.History.{desks_have_what_was_put_in}
use Rattle.ground.proofs.laws.a_desk_has_what_was_put_in.Goals as goal

pub returns : goal.returns
returns c = desks_have_what_was_put_in
