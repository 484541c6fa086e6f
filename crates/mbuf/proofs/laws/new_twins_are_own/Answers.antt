use Rattle.mbuf.proofs.ForeignLemmas.{own_new_twin}
use Rattle.mbuf.proofs.laws.new_twins_are_own.Goals as goal

-- A new twin has nothing, and its worker needs nothing.
pub returns : goal.returns
returns c = own_new_twin
