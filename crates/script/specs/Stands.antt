-- What a name stands for, as the map keeps it.
use Rattle.std.specs.Prelude.{ℕ, ◌==◌, ◌&&◌, Bool, List, Option}
use Rattle.std.specs.Borrow.{Bor}
use Rattle.std.specs.Str.{bytes_eq}
use Rattle.std.specs.HashMap.{get}
use Rattle.script.specs.declared.names.Names.{Names}
use Rattle.script.specs.declared.names.Stand.{Stand}

-- whether two keys are of one worker and one name
abbrev pub same_key : ℕ × Bor (List ℕ) → ℕ × Bor (List ℕ) → Bool
same_key one other = one.0 == other.0 && bytes_eq one.1.now other.1.now

abbrev pub stands_in : Names → ℕ → List ℕ → Option Stand
stands_in names worker name = get same_key names.stands (worker, record { ref_ptr = (0, 0); now = name })
