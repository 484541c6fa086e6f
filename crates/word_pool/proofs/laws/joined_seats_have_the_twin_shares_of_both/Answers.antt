use Rattle.word_pool.proofs.TwinJoined.{both_twin_shares}
use Rattle.word_pool.proofs.laws.joined_seats_have_the_twin_shares_of_both.Goals as goal

pub returns : goal.returns
returns c = both_twin_shares
