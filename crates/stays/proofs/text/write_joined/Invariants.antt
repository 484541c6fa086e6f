use Rattle.std.proofs.Common.{◌≡◌, ◌++◌, take}
use Rattle.element_text.specs.Elements.{joined}
use Rattle.stays.specs.StayText.{part_text}
use Rattle.stays.proofs.text.write_joined.Given as goal

-- the segments so far
abbrev pub invariant-loop-part : goal.invariant-loop-part
invariant-loop-part l =
    l.out.items ≡ l.fn.out.items ++ joined part_text (take l.part-index l.parts)
