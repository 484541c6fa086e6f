use Rattle.std.proofs.Common.{◌≡◌, take}
use Rattle.step_core.specs.Bags.{minus}
use Rattle.step_core.proofs.elems.Elems.take_all_out.Given as goal

abbrev pub invariant-loop-element : goal.invariant-loop-element
invariant-loop-element l = l.self ≡ minus l.fn.self (take l.element-index l.elements)
