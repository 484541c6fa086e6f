-- Each rule writes one slot or two, which the act names, or fills free ones.
use Rattle.mbuf.proofs.SlotLemmas.{act_leaves_slots}
use Rattle.mbuf.proofs.laws.an_act_leaves_the_slots_it_does_not_name.Goals as goal

pub returns : goal.returns
returns c = λ act before after calls reply did. act_leaves_slots act before calls reply after did
