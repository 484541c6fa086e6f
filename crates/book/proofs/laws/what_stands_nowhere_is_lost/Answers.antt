-- In a lawful pool each element is in one place.
use Rattle.book.proofs.Lost.{lost_with}
use Rattle.book.proofs.laws.what_stands_nowhere_is_lost.Goals as goal

pub returns : goal.returns
returns c = λ l closed members listed elems law are. lost_with l closed members listed elems law are
