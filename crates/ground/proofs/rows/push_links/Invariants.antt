use Rattle.std.proofs.Common.{◌≡◌, ◌-◌, ◌++◌}
use Rattle.step_core.specs.Opening.{links_up}
use Rattle.ground.proofs.rows.push_links.Given as goal

-- what has been pushed, and the links that are left, are all
abbrev pub invariant-loop-i : goal.invariant-loop-i
invariant-loop-i l =
    l.words.items ++ links_up l.i (l.fn.count - l.i)
    ≡ l.initial.words.items ++ links_up 0 l.fn.count
