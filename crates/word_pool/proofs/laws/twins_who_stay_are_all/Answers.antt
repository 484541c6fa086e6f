use Rattle.word_pool.proofs.TwinStaying.{twins_stay}
use Rattle.word_pool.proofs.laws.twins_who_stay_are_all.Goals as goal

pub returns : goal.returns
returns c = twins_stay
