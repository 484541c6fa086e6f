-- Their numbers are those from 1 up.
use Rattle.book.proofs.Lost.{all_ordered}
use Rattle.book.proofs.laws.all_workers_are_in_order.Goals as goal

pub returns : goal.returns
returns c = λ l members listed numbers. all_ordered l members numbers listed
