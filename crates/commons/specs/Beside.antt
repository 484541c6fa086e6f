-- Several workers at one `PlainSite`: what one's calls leave the others.
use Rattle.std.specs.Prelude.{ℕ, ◌≡◌, ◌≢◌, ◌≤◌}
use Rattle.commons.specs.declared.plain.PlainCommons.{PlainCommons}
use Rattle.commons.specs.Calls.{SameSide}
use Rattle.commons.specs.Lists.{Lists, IsTable, side_of}

-- the lists are a table of the same pool, and every worker but this one has there what it had
pub record KeepsSides (worker : ℕ) (before after : Lists) : Type 0 where
  pub table : IsTable after
  pub limits : after.limits ≡ before.limits
  pub others : (v : ℕ) → 1 ≤ v → v ≢ worker → SameSide (side_of before v) (side_of after v)

-- it is the same worker at the same site, where every other worker has what it had
pub record LeavesOthers (before after : PlainCommons) : Type 0 where
  pub site : after.site.ghost_name ≡ before.site.ghost_name
  pub worker : after.worker ≡ before.worker
  pub sides : KeepsSides before.worker before.site.now after.site.now
