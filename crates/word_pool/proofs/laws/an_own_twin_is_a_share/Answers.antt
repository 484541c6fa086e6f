use Rattle.word_pool.proofs.TwinJoined.{one_twin_share}
use Rattle.word_pool.proofs.laws.an_own_twin_is_a_share.Goals as goal

pub returns : goal.returns
returns c = one_twin_share
