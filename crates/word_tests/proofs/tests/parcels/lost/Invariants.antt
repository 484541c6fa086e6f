use Rattle.word_tests.proofs.tests.parcels.lost.Given as goal

-- the parcels are of this pool's ground
abbrev pub ghosts-pass : goal.ghosts-pass
ghosts-pass g a = record { ground = a.ground.now }
