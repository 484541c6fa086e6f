use Rattle.std.proofs.Common.{vec_len}
use Rattle.script_tests.proofs.tests.settling.deposit_all.Given as goal

abbrev pub decreases-loop-share : goal.decreases-loop-share
decreases-loop-share l = vec_len l.shares
