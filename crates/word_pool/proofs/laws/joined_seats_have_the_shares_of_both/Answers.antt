-- Sums over both are the sums of both.
use Rattle.word_pool.proofs.Joined.{both_shares}
use Rattle.word_pool.proofs.laws.joined_seats_have_the_shares_of_both.Goals as goal

pub returns : goal.returns
returns c = both_shares
