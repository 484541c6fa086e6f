use Rattle.mbuf.proofs.OwnLemmas.{own_same}
use Rattle.mbuf.proofs.laws.packets_stay_own.Goals as goal

-- What is a worker's own is said of its packets and its side of the pool alone.
pub returns : goal.returns
returns c = own_same
