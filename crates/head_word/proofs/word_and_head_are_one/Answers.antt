use Rattle.head_word.proofs.HeadLemmas.{one_head, one_word}
use Rattle.head_word.proofs.word_and_head_are_one.Goals as goal

pub returns : goal.returns
returns c = record { word = one_word; head = one_head }
