-- A worker's own packets are what its view has.
use Rattle.word_pool.proofs.Joined.{no_share, one_share}
use Rattle.word_pool.proofs.laws.own_packets_are_a_share.Goals as goal

pub returns-clause-one : goal.returns-clause-one
returns-clause-one c = one_share

pub returns-clause-none : goal.returns-clause-none
returns-clause-none c = no_share
