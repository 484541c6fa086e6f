-- Each stays one of the ground, with its number.
use Rattle.word_pool.proofs.Staying.{workers_stay}
use Rattle.word_pool.proofs.laws.workers_who_stay_are_all.Goals as goal

pub returns : goal.returns
returns c = workers_stay
