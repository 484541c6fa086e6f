use Rattle.layer_tests.specs.OwnAtSite.{OwnAtSites}
use Rattle.layer_tests.proofs.twins.all_said.Given as goal

-- the worker is its own at both sites
abbrev pub invariant-loop-place : goal.invariant-loop-place
invariant-loop-place g l = OwnAtSites l.twin l.c l.d
