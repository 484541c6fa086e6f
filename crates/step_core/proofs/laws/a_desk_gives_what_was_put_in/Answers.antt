use Rattle.step_core.proofs.Handing.{gives_what_was_put_in}
use Rattle.step_core.proofs.laws.a_desk_gives_what_was_put_in.Goals as goal

pub returns : goal.returns
returns c = gives_what_was_put_in
