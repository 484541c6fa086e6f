-- What C is told of a pool that was closed.
use Rattle.std.specs.Prelude.{ℕ, ◌≡◌, ◌<◌, ◌⊎◌, List, Option, Some, None, length, slice_index_or}
use Rattle.commons.specs.declared.refusal.Refusal.TheVariants.{StrangerShare}
use Rattle.commons.specs.Refusals.{number_of}
use Rattle.pool_statement.specs.declared.statement.Statement.{Statement}
use Rattle.mbufpool_c.specs.declared.ending.Ending.{Ending}
use Rattle.mbufpool_c.specs.declared.told.Counts.{Counts}

-- the statement of what a pool left, where there is one
abbrev pub statement_in : Option Ending → Option Statement
statement_in None = None
statement_in (Some e) = e.statement

abbrev pub counts_in : Statement → Counts
counts_in s = record { population = s.population; available = s.available; in_use = s.in_use }

-- C has the counts of the statement; or there is none, and what was there stays
abbrev pub ShowsCountsOf : Option Statement → ℕ → Counts → Counts → Type 0
ShowsCountsOf None status was out = (status ≡ number_of StrangerShare) × (out ≡ was)
ShowsCountsOf (Some s) status was out = (status ≡ 0) × (out ≡ counts_in s)

abbrev pub ShowsCounts : Option Ending → ℕ → Counts → Counts → Type 0
ShowsCounts ending status was out = ShowsCountsOf (statement_in ending) status was out

-- as many of these as there is room for were written, from the first on, and the rest stays
pub record Fills (xs old new : List ℕ) : Type 0 where
  pub room : length new ≡ length old
  pub each : (k d : ℕ) → k < length old → slice_index_or new k d ≡ slice_index_or xs k (slice_index_or old k d)

-- C has this text of the statement, as much as there is room for, and how long all of it is; or 0,
-- where there is no statement, or memory was refused, and nothing was written
abbrev pub TellsTextOf : (Statement → List ℕ) → Option Statement → ℕ → List ℕ → List ℕ → Type 0
TellsTextOf text None told old new = (told ≡ 0) × (new ≡ old)
TellsTextOf text (Some s) told old new =
    ((told ≡ 0) × (new ≡ old)) ⊎ ((told ≡ length (text s)) × Fills (text s) old new)

abbrev pub TellsText : (Statement → List ℕ) → Option Ending → ℕ → List ℕ → List ℕ → Type 0
TellsText text ending told old new = TellsTextOf text (statement_in ending) told old new

-- C has the lost elements, as many as there is room for, and how many there are
abbrev pub TellsLost : Option Ending → ℕ → List ℕ → List ℕ → Type 0
TellsLost None told old new = (told ≡ 0) × (new ≡ old)
TellsLost (Some e) told old new = (told ≡ length e.lost.items) × Fills e.lost.items old new
