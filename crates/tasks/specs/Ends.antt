-- What the end of a print says.
use Rattle.std.specs.Prelude.{ℕ, nat_lt, if◌then◌else◌}
use Rattle.tasks.specs.declared.printing.End.{End}
use Rattle.tasks.specs.declared.printing.End.TheVariants.{BrokenOff, Listed, Printed}

-- the output failed
abbrev pub IsBrokenOff : End → Type 0
IsBrokenOff (BrokenOff count) = Unit {0}
IsBrokenOff _ = ⊥

-- The status of the program: 0 where the whole print was written, and tells of no faults where they are
-- asked for; and 1 for each other end.
abbrev pub status_of_end : End → ℕ
status_of_end Printed = 0
status_of_end (Listed count) = if nat_lt 0 count then 1 else 0
status_of_end _ = 1
