use Rattle.mbuf.proofs.OwnLemmas.{own_new}
use Rattle.mbuf.proofs.laws.new_packets_are_own.Goals as goal

-- An empty table holds nothing, and the cache is empty as the hand is.
pub returns : goal.returns
returns c = own_new
