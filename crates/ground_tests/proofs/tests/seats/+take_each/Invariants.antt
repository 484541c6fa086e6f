use Rattle.ground_tests.proofs.tests.seats.+take_each.Given as goal

-- how many more seats are split off
abbrev pub decreases-take_each : goal.decreases-take_each
decreases-take_each g l = l.more
