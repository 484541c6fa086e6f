-- Commands: which names they make, which are of a second pool, and the lines that have them.
use Rattle.std.specs.Prelude.{ℕ, Bool, true, false, List, [], ◌∷◌}
use Rattle.script_text.specs.declared.commands.Command.{Command}
use Rattle.script_text.specs.declared.commands.Command.TheVariants.{Alloc, Bulk, Clone, CloneTo, Take}
use Rattle.script_text.specs.declared.lines.Line as lines

-- a line with a command
abbrev pub Line : Type 0
Line = lines.Line Command

-- the names that a command makes
abbrev pub names_made : Command → List (List ℕ)
names_made (Alloc packet) = packet ∷ []
names_made (Bulk packets) = packets
names_made (Clone packet copy) = copy ∷ []
names_made (CloneTo packet copy) = copy ∷ []
names_made (Take desk packet) = packet ∷ []
names_made _ = []

-- whether a command is of a second pool
abbrev pub needs_second : Command → Bool
needs_second (CloneTo packet copy) = true
needs_second _ = false
