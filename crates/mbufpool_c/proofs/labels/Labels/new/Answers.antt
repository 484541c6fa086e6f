use Rattle.mbufpool_c.proofs.LabelLemmas.{first_are}
use Rattle.mbufpool_c.proofs.labels.Labels.new.Goals as goal

-- each is its slot
pub invariant_of-result : goal.invariant_of-result
invariant_of-result c = first_are c.counted.result c.counted.ensures
