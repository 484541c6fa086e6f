use Rattle.std.specs.Prelude.{◌≡◌}
use Rattle.script.proofs.twins_under_lock.run.Given as goal

-- the pools under the lock are of these limits
abbrev pub ghosts-played-K-OfLimits : goal.ghosts-played-K-OfLimits
ghosts-played-K-OfLimits g a = record { allows = λ l. l ≡ a.first.now }

abbrev pub ghosts-played-L-OfLimits : goal.ghosts-played-L-OfLimits
ghosts-played-L-OfLimits g a = record { allows = λ l. l ≡ a.second.now }
