use Rattle.std.proofs.Common.{◌≡◌, ◌++◌, take}
use Rattle.element_text.specs.Elements.{joined}
use Rattle.statement_text.specs.StatementText.{holder_text}
use Rattle.statement_text.proofs.held.write_joined.Given as goal

abbrev pub invariant-loop-holder : goal.invariant-loop-holder
invariant-loop-holder l =
    l.out.items ≡ l.fn.out.items ++ joined holder_text (take l.holder-index l.holders)
