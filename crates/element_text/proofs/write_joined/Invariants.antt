use Rattle.std.proofs.Common.{◌≡◌, ◌++◌, take}
use Rattle.std.specs.Prelude.{decimal}
use Rattle.element_text.specs.Elements.{joined}
use Rattle.element_text.proofs.write_joined.Given as goal

-- the elements so far were written
abbrev pub invariant-loop-element : goal.invariant-loop-element
invariant-loop-element l =
    l.out.items ≡ l.fn.out.items ++ joined decimal (take l.element-index l.elements)
