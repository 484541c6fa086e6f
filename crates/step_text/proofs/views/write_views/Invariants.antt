use Rattle.std.proofs.Common.{◌≡◌, ◌++◌, ◌+◌, drop}
use Rattle.step_text.specs.WorldText.{views_text}
use Rattle.step_text.proofs.views.write_views.Given as goal

-- what was written, and what is left to write
abbrev pub invariant-loop-index : goal.invariant-loop-index
invariant-loop-index l =
    l.out.items ++ views_text (l.index + 1) (drop l.index l.views)
    ≡ l.fn.out.items ++ views_text 1 l.views
