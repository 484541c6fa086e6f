use Rattle.std.specs.Prelude.{◌≡◌}
use Rattle.script.proofs.under_lock.run_lost.Given as goal

-- the pool under the lock is of the script's limits
abbrev pub ghosts-played : goal.ghosts-played
ghosts-played g a = record { allows = λ l. l ≡ a.limits.now }
