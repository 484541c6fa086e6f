use Rattle.std.proofs.Common.{vec_len}
use Rattle.share_book.proofs.twin_site.lose_all.Given as goal

abbrev pub decreases-loop-twin : goal.decreases-loop-twin
decreases-loop-twin l = vec_len l.members
