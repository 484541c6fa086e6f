use Rattle.std.proofs.Common.{◌≡◌, ℕ, List, take, drop}
use Rattle.script_text.specs.inside.ScriptReading.{repeats}
use Rattle.script_text.specs.inside.Agreement.{has_made}
use Rattle.script_text.proofs.NameRuns.{with_names}
use Rattle.script_text.proofs.made_names.MadeNames.claim.Given as goal

-- the names so far are made, and the others are still to be looked at
abbrev pub invariant-loop-name : goal.invariant-loop-name
invariant-loop-name l = record {
  made : (w : ℕ) (other : List ℕ) →
      has_made l.self w other
      ≡ with_names (has_made l.fn.self) l.worker (take l.name-index l.names) w other;
  left : repeats (with_names (has_made l.fn.self) l.worker (take l.name-index l.names)) l.worker
      (drop l.name-index l.names) ≡ repeats (has_made l.fn.self) l.worker l.names;
}
