use Rattle.mbuf.proofs.BitLemmas.{ones_of_four}
use Rattle.mbuf.proofs.free_slots.bits_up.Goals as goal

-- The words have a bit for each slot.
pub returns : goal.returns
returns c = ones_of_four c.args.words.now (λ k. (c.type_inv.words k).fits)
