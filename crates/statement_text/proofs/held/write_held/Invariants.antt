use Rattle.std.proofs.Common.{◌≡◌, ◌++◌, take}
use Rattle.std.specs.List.{flat_map}
use Rattle.statement_text.specs.StatementText.{held_text}
use Rattle.statement_text.proofs.held.write_held.Given as goal

abbrev pub invariant-loop-element : goal.invariant-loop-element
invariant-loop-element l =
    l.out.items ≡ l.fn.out.items ++ flat_map held_text (take l.element-index l.held)
