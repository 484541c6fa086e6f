use Rattle.std.proofs.Common.{◌≡◌, ◌++◌, drop}
use Rattle.step_text.specs.WorldText.{counts_text}
use Rattle.step_text.proofs.desks.write_counts.Given as goal

-- what was written, and what is left to write
abbrev pub invariant-loop-element : goal.invariant-loop-element
invariant-loop-element l =
    l.out.items ++ counts_text l.element (drop l.element l.counts) ≡ l.fn.out.items ++ counts_text 0 l.counts
