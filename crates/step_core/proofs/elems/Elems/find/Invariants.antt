use Rattle.std.proofs.Common.{◌≡◌, take}
use Rattle.commons.specs.Bag.{bag}
use Rattle.step_core.proofs.elems.Elems.find.Given as goal

abbrev pub invariant-loop-element : goal.invariant-loop-element
invariant-loop-element l = bag (take l.element-index l.element-items) l.number ≡ 0
