-- Each act writes the slots that it names, and fills free ones, which its reply tells of.
use Rattle.pool_model.proofs.SlotsLeft.{slots_left}
use Rattle.pool_model.proofs.laws.an_act_leaves_the_slots_it_does_not_name.Goals as goal

pub returns : goal.returns
returns c = slots_left
