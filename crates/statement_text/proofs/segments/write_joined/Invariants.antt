use Rattle.std.proofs.Common.{◌≡◌, ◌++◌, take}
use Rattle.element_text.specs.Elements.{joined}
use Rattle.statement_text.specs.StatementText.{segment_text}
use Rattle.statement_text.proofs.segments.write_joined.Given as goal

abbrev pub invariant-loop-seg : goal.invariant-loop-seg
invariant-loop-seg l =
    l.out.items ≡ l.fn.out.items ++ joined segment_text (take l.seg-index l.segs)
