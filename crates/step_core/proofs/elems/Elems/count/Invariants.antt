use Rattle.std.proofs.Common.{◌≡◌, ◌≤◌, take}
use Rattle.commons.specs.Bag.{bag}
use Rattle.step_core.proofs.elems.Elems.count.Given as goal

-- how often the number stands in the list so far, at most once at each index
abbrev pub invariant-loop-element : goal.invariant-loop-element
invariant-loop-element l = record {
  times : l.times ≡ bag (take l.element-index l.element-items) l.number;
  few : l.times ≤ l.element-index;
}
