-- All but the one are left, or an only one stays.
use Rattle.word_pool.proofs.Left.{left_after, number_within}
use Rattle.word_pool.proofs.Staying.{crew_of_workers}
use Rattle.word_pool.proofs.laws.a_worker_is_lost_and_the_others_are_left.Goals as goal

pub returns-clause-number : goal.returns-clause-number
returns-clause-number c g ms number workers = number_within g ms number (crew_of_workers g ms workers)

pub returns-clause-left : goal.returns-clause-left
returns-clause-left c g ms number workers = left_after g ms number (crew_of_workers g ms workers)
