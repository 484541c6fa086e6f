-- In a lawful world each element is in one place.
use Rattle.word_pool.proofs.LostViews.{lost_by}
use Rattle.word_pool.proofs.laws.what_stands_nowhere_is_lost.Goals as goal

pub returns : goal.returns
returns c = λ l lost members closed elems left are. lost_by l lost members closed left elems are
