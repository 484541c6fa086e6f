use Rattle.stack_lf.proofs.Reading.{causes}
use Rattle.stack_lf.proofs.laws.what_was_read_last.Goals as goal

pub returns : goal.returns
returns c = causes
