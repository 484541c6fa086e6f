use Rattle.std.proofs.Common.{◌≡◌, ◌++◌, drop}
use Rattle.step_text.specs.WorldText.{desks_text}
use Rattle.step_text.proofs.desks.write_desks.Given as goal

-- what was written, and what is left to write
abbrev pub invariant-loop-number : goal.invariant-loop-number
invariant-loop-number l =
    l.out.items ++ desks_text l.number (drop l.number l.desks) ≡ l.fn.out.items ++ desks_text 0 l.desks
