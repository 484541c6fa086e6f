-- What a send and a receive change of a worker is its part alone.
use Rattle.word_pool.proofs.Left.{all_left, left_after, number_within}
use Rattle.word_pool.proofs.Staying.{crew_of_workers, same_again, same_crew, stays_same, workers_of_crew}
use Rattle.word_pool.proofs.laws.workers_who_send_and_receive_are_its_crew.Goals as goal

pub returns : goal.returns
returns c = record {
  crew = crew_of_workers;
  same = same_crew;
  all = workers_of_crew;
  left = all_left;
  lost = λ g ms number crew of. ((number_within g ms number crew of).1, left_after g ms number crew of);
  stays = stays_same;
  again = same_again;
}
