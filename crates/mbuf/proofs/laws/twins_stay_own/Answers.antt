use Rattle.mbuf.proofs.ForeignLemmas.{own_same_twin}
use Rattle.mbuf.proofs.laws.twins_stay_own.Goals as goal

-- What is its own is said of what it has, and of its sides of both pools alone.
pub returns : goal.returns
returns c = own_same_twin
