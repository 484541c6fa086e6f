use Rattle.std.proofs.Common.{◌≡◌, ◌++◌, take}
use Rattle.element_text.specs.Elements.{joined}
use Rattle.step_text.specs.WorldText.{segment_text}
use Rattle.step_text.proofs.elements.write_segments.Given as goal

abbrev pub invariant-loop-seg : goal.invariant-loop-seg
invariant-loop-seg l =
    l.out.items ≡ l.fn.out.items ++ joined segment_text (take l.seg-index l.segs)
